-- A proper tetrahedron looks like the big one: tests on its numbers answer as those on 0, 1, 2, 3.
use Rattle.std.proofs.Common.{◌≡◌, ℕ, ◌+◌, ◌<◌, Bool, true, false, cond, ◌&&◌, ◌||◌, eqb, ◌≢◌, [], ◌∷◌, sym, refl, ◌∙◌, inl, inr, arith}
use Rattle.std.proofs.lemmas.Bool.{eqb-true, cases_eq, and_parts, or_from}
use Rattle.std.proofs.lemmas.Bool.Decides.{nat_tests}
use Rattle.algebra.specs.Lists.{all}
use Rattle.algebra.proofs.Lists.{bit}
use Rattle.mesh.specs.Orientations.{turns, oriented, Proper}
use Rattle.mesh.specs.Shells.{turned, flipped}
use Rattle.mesh.specs.Tetrahedra.{Tet, Slot, first, second, third, fourth, at, face, Triple, has, has_face, big}

abbrev pub tri : ℕ → ℕ → ℕ → Triple
tri x y z = record { x = x; y = y; z = z }

-- x stands in t where m stands in the big tetrahedron, and 4 stands nowhere
record Seen (t : Tet) (x m : ℕ) : Type 0 where
  low : m < 5
  a : eqb t.a x ≡ eqb 0 m
  b : eqb t.b x ≡ eqb 1 m
  c : eqb t.c x ≡ eqb 2 m
  d : eqb t.d x ≡ eqb 3 m

seen : (t : Tet) → Proper t → (x : ℕ) → (m : ℕ) × Seen t x m
seen t h x = elim (cases_eq t.a x) [
  | inl e ↦ (0, grind (arith, nat_tests))
  | inr na ↦ elim (cases_eq t.b x) [
    | inl e ↦ (1, grind (arith, nat_tests))
    | inr nb ↦ elim (cases_eq t.c x) [
      | inl e ↦ (2, grind (arith, nat_tests))
      | inr nc ↦ elim (cases_eq t.d x) [
        | inl e ↦ (3, grind (arith, nat_tests))
        | inr nd ↦ (4, grind (arith, nat_tests))
      ]
    ]
  ]
]

-- a test passes at 0 to 4
abbrev five : (ℕ → Bool) → Bool
five p = all p (0 ∷ 1 ∷ 2 ∷ 3 ∷ 4 ∷ [])

below_five : (p : ℕ → Bool) → five p ≡ true → (m : ℕ) → m < 5 → p m ≡ true
below_five p h m l =
    let h0 = and_parts (p 0) (all p (1 ∷ 2 ∷ 3 ∷ 4 ∷ [])) h in
    let h1 = and_parts (p 1) (all p (2 ∷ 3 ∷ 4 ∷ [])) h0.1 in
    let h2 = and_parts (p 2) (all p (3 ∷ 4 ∷ [])) h1.1 in
    let h3 = and_parts (p 3) (all p (4 ∷ [])) h2.1 in
    let h4 = and_parts (p 4) true h3.1 in
    grind arith

-- where three numbers stand
record View (t : Tet) (x y z : ℕ) : Type 0 where
  i : ℕ
  j : ℕ
  k : ℕ
  at_x : Seen t x i
  at_y : Seen t y j
  at_z : Seen t z k

view : (t : Tet) → Proper t → (x y z : ℕ) → View t x y z
view t h x y z =
    let i = seen t h x in let j = seen t h y in let k = seen t h z in
    record { i = i.0; j = j.0; k = k.0; at_x = i.1; at_y = j.1; at_z = k.1 }

-- two counts agree at all of 0 to 4
abbrev Agree : (l r : ℕ → ℕ → ℕ → ℕ) → Type 0
Agree l r = five (λ i. five (λ j. five (λ k. eqb (l i j k) (r i j k)))) ≡ true

agree : {t : Tet} {x y z : ℕ} → (v : View t x y z) (l r : ℕ → ℕ → ℕ → ℕ) → Agree l r → l v.i v.j v.k ≡ r v.i v.j v.k
agree v l r h =
    eqb-true (l v.i v.j v.k) (r v.i v.j v.k)
    (below_five (λ k. eqb (l v.i v.j k) (r v.i v.j k))
    (below_five (λ j. five (λ k. eqb (l v.i j k) (r v.i j k)))
    (below_five (λ i. five (λ j. five (λ k. eqb (l i j k) (r i j k)))) h v.i v.at_x.low) v.j v.at_y.low) v.k v.at_z.low)

-- a number for each slot, added up
abbrev pub four : (Slot → ℕ) → ℕ
four f = f first + f second + f third + f fourth

-- an oriented face of a tetrahedron is that of one slot
pub oriented_slots : (t : Tet) → Proper t → (x y z : ℕ) → bit (oriented t x y z) ≡ four (λ s. bit (turns (face t s) x y z))
oriented_slots t h x y z =
    let v = view t h x y z in
    let e = agree v (λ x y z. bit (oriented big x y z)) (λ x y z. four (λ s. bit (turns (face big s) x y z))) refl in
    cc

-- x and y are one number of t
abbrev twice : Tet → ℕ → ℕ → Bool
twice t x y = (eqb t.a x && eqb t.a y) || (eqb t.b x && eqb t.b y) || (eqb t.c x && eqb t.c y) || (eqb t.d x && eqb t.d y)

-- not where they differ
once_big : (t : Tet) (x y i j : ℕ) → Seen t x i → Seen t y j → x ≢ y → twice big i j ≡ false
once_big t x y i j hx hy h = let e : twice t x y ≡ twice big i j = cc in let n : twice t x y ≡ false = grind (arith, nat_tests) in sym e ∙ n

-- two of three are one number of t
abbrev repeats : Tet → ℕ → ℕ → ℕ → Bool
repeats t x y z = twice t x y || twice t x z || twice t y z

eqb_sym : (x y : ℕ) → eqb x y ≡ eqb y x
eqb_sym x y = grind (arith, nat_tests)

has_like : (t : Tet) (x i : ℕ) → Seen t x i → has x t ≡ has i big
has_like t x i h = cc (eqb_sym x t.a, eqb_sym x t.b, eqb_sym x t.c, eqb_sym x t.d, eqb_sym i 0, eqb_sym i 1, eqb_sym i 2, eqb_sym i 3)

oriented_like : (t : Tet) (x y z i j k : ℕ) → Seen t x i → Seen t y j → Seen t z k → oriented t x y z ≡ oriented big i j k
oriented_like t x y z i j k hx hy hz = cc

alike : (n p q r p' q' r' : Bool) → cond n 0 (bit p) ≡ cond n 0 (bit q + bit r) → n ≡ false → p' ≡ p → q' ≡ q → r' ≡ r → bit p' ≡ bit q' + bit r'
alike n p q r p' q' r' e en ep eq er = simp (ep, eq, er) (simp en at e)

-- three different points of a tetrahedron are a face in one of the two directions
pub has_face_oriented : (t : Tet) → Proper t → (f : Triple) → f.x ≢ f.y → f.x ≢ f.z → f.y ≢ f.z
    → bit (has_face f t) ≡ bit (oriented t f.x f.y f.z) + bit (oriented t f.y f.x f.z)
has_face_oriented t h f xy xz yz =
    let x = f.x in let y = f.y in let z = f.z in
    let v = view t h x y z in
    let i = v.i in let j = v.j in let k = v.k in
    let e = agree v (λ x y z. cond (repeats big x y z) 0 (bit (has_face (tri x y z) big))) (λ x y z. cond (repeats big x y z) 0 (bit (oriented big x y z) + bit (oriented big y x z))) refl in
    alike (repeats big i j k) (has_face (tri i j k) big) (oriented big i j k) (oriented big j i k) (has_face f t) (oriented t x y z) (oriented t y x z) e
    (or_from (twice big i j || twice big i k) (twice big j k) (or_from (twice big i j) (twice big i k) (once_big t x y i j v.at_x v.at_y xy) (once_big t x z i k v.at_x v.at_z xz)) (once_big t y z j k v.at_y v.at_z yz))
    (cc (has_like t x i v.at_x, has_like t y j v.at_y, has_like t z k v.at_z))
    (oriented_like t x y z i j k v.at_x v.at_y v.at_z)
    (oriented_like t y x z j i k v.at_y v.at_x v.at_z)

-- the directed edge u v is one of a face
abbrev pub edge : ℕ → ℕ → Triple → Bool
edge u v f = (eqb f.x u && eqb f.y v) || (eqb f.y u && eqb f.z v) || (eqb f.z u && eqb f.x v)

-- the faces of a tetrahedron have an edge as often each way
pub edges_cancel : (t : Tet) → Proper t → (u v : ℕ) → four (λ s. bit (edge u v (face t s))) ≡ four (λ s. bit (edge v u (face t s)))
edges_cancel t h u v =
    let w = view t h u v 0 in
    let e = agree w (λ u v z. four (λ s. bit (edge u v (face big s)))) (λ u v z. four (λ s. bit (edge v u (face big s)))) refl in
    cc

-- the oriented faces of a tetrahedron as its point n and the face that lacks it tell them
abbrev pub from_tip : ℕ → Triple → ℕ → ℕ → ℕ → Bool
from_tip n f x y z = cond (eqb n x) (edge z y f) (cond (eqb n y) (edge x z f) (cond (eqb n z) (edge y x f) (turns f x y z)))

abbrev oriented_big : ℕ → ℕ → ℕ → ℕ
oriented_big x y z = bit (oriented big x y z)

abbrev tip_big : Slot → ℕ → ℕ → ℕ → ℕ
tip_big s x y z = bit (from_tip (at big s) (face big s) x y z)

pub oriented_from_tip : (t : Tet) → Proper t → (s : Slot) (x y z : ℕ) → bit (oriented t x y z) ≡ bit (from_tip (at t s) (face t s) x y z)
oriented_from_tip t h first x y z = let v = view t h x y z in let e = agree v oriented_big (tip_big first) refl in cc
oriented_from_tip t h second x y z = let v = view t h x y z in let e = agree v oriented_big (tip_big second) refl in cc
oriented_from_tip t h third x y z = let v = view t h x y z in let e = agree v oriented_big (tip_big third) refl in cc
oriented_from_tip t h fourth x y z = let v = view t h x y z in let e = agree v oriented_big (tip_big fourth) refl in cc

-- ---- faces turned and flipped

pub turns_turned : (f : Triple) (x y z : ℕ) → turns (turned f) x y z ≡ turns f x y z
turns_turned f x y z = grind arith

pub turns_flipped : (f : Triple) (x y z : ℕ) → turns (flipped f) x y z ≡ turns f y x z
turns_flipped f x y z = grind arith

pub edge_turned : (u v : ℕ) (f : Triple) → edge u v (turned f) ≡ edge u v f
edge_turned u v f = grind arith

pub edge_flipped : (u v : ℕ) (f : Triple) → edge u v (flipped f) ≡ edge v u f
edge_flipped u v f = grind arith

-- the face f is h in the opposite direction
abbrev pub against : Triple → Triple → Bool
against f h = turns f h.y h.x h.z

turns_sym : (f : Triple) (x y z : ℕ) → turns f x y z ≡ turns (tri x y z) f.x f.y f.z
turns_sym f x y z = grind (arith, eqb_sym f.x x, eqb_sym f.x y, eqb_sym f.x z, eqb_sym f.y x, eqb_sym f.y y, eqb_sym f.y z, eqb_sym f.z x, eqb_sym f.z y, eqb_sym f.z z)

pub against_sym : (f h : Triple) → against f h ≡ against h f
against_sym f h = turns_sym f h.y h.x h.z ∙ turns_flipped h f.x f.y f.z

-- what is the same when a face is turned is the same at each order that turns it
pub turns_same : {A : Type 0} (g : Triple → A) → ((f : Triple) → g (turned f) ≡ g f) → (f : Triple) (x y z : ℕ) → turns f x y z ≡ true → g f ≡ g (tri x y z)
turns_same g keeps f x y z h =
    let e = keeps f in
    let d = keeps (turned f) in
    grind (arith, nat_tests)
