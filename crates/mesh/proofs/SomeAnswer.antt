-- A call that the state permits has an answer: each question is decided.
use Rattle.std.proofs.Common.{◌≡◌, ℕ, zero, suc, ◌<◌, ◌≤◌, Bool, true, ◌⊎◌, List, [], ◌∷◌, length, get_or, sym, subst, inl, inr, arith}
use Rattle.std.specs.List.{AllByRecursion}
use Rattle.std.proofs.ByRecursion.{All-from_get_or}
use Rattle.std.proofs.lemmas.Bool.{cases_Bool, cases_eq, cases_lt, both_ways}
use Rattle.algebra.specs.Lists.{some}
use Rattle.geometry.specs.Lifts.{Lift}
use Rattle.geometry.specs.Spots.{Spot, bare}
use Rattle.mesh.specs.Adding.{SamePlace, conflicts, shell_at, Permitted, Admitted, Room, Untaken, Conflicting, Fitting, Closed, Staying, Adds, off_grid, unpermitted, unadmitted, points_full, place_taken, no_conflict, tetrahedra_full, shell_open, point_vanishes, added}
use Rattle.mesh.specs.Owners.{figures_at, leads}
use Rattle.mesh.specs.Past.{Owner, Locates, nowhere, no_owner, lowest_owner, Step, adds, seals, locates, states}
use Rattle.mesh.specs.Soundness.{Permits}
use Rattle.mesh.specs.Surveys.{Grading, Tables, Call, add, seal, locate, state, Answer, Site, State, points, count, OnGrid}
use Rattle.mesh.specs.Tetrahedra.{Tet, first, second, third, fourth, closed, stays, big}

abbrev Decided : Type 0 → Type 0
Decided P = P ⊎ (¬ P)

-- ---- single questions

passes : (b : Bool) → Decided (b ≡ true)
passes b = elim (cases_Bool b) [ inl e ↦ inl e | inr e ↦ inr (both_ways b e) ]

at_most : (m n : ℕ) → Decided (m ≤ n)
at_most m n = elim (cases_lt n m) [ inl l ↦ inr (λ h. omega arith) | inr l ↦ inl l ]

below : (m n : ℕ) → Decided (m < n)
below m n = elim (cases_lt m n) [ inl l ↦ inl l | inr l ↦ inr (λ h. omega arith) ]

three : (A B C : Type 0) → Decided A → Decided B → Decided C → Decided (A × B × C)
three A B C (inl a) (inl b) (inl c) = inl (a, b, c)
three A B C (inl a) (inl b) (inr n) = inr (λ h. n h.2)
three A B C (inl a) (inr n) c = inr (λ h. n h.1)
three A B C (inr n) b c = inr (λ h. n h.0)

ranged : (c : ℕ) → Decided ((1 ≤ c) × (c ≤ 800))
ranged c = elim (cases_lt c 1) [
  | inl l ↦ inr (λ h. omega (arith, h.0))
  | inr l ↦ elim (cases_lt 800 c) [ inl m ↦ inr (λ h. omega (arith, h.1)) | inr m ↦ inl (l, m) ]
]

on_grid : (p : Spot) → Decided (OnGrid p)
on_grid p = three _ _ _ (ranged p.x) (ranged p.y) (ranged p.z)

same_place : (p q : Spot) → Decided (SamePlace p q)
same_place p q = three _ _ _ (cases_eq p.x q.x) (cases_eq p.y q.y) (cases_eq p.z q.z)

untaken : {R : Type 0} (p : Spot) (xs : List (Site R)) → Decided (AllByRecursion (λ a. ¬ SamePlace p a.place) xs)
untaken p [] = inl tt
untaken p (a ∷ xs) = elim (same_place p a.place) [
  | inl e ↦ inr (λ h. h.0 e)
  | inr e ↦ elim (untaken p xs) [ inl k ↦ inl (e, k) | inr k ↦ inr (λ h. k h.1) ]
]

-- ---- numbers below a bound

-- the lowest number below n at which P holds, or it holds at none
abbrev Lowest : (ℕ → Type 0) → ℕ → Type 0
Lowest P n = ((k : ℕ) × (k < n) × P k × ((j : ℕ) → j < k → ¬ P j)) ⊎ ((j : ℕ) → j < n → ¬ P j)

lowest : (P : ℕ → Type 0) → ((k : ℕ) → Decided (P k)) → (n : ℕ) → Lowest P n
lowest P d zero = inr (λ j l. absurd (omega arith))
lowest P d (suc n) = elim (lowest P d n) [
  | inl h ↦ inl (h.0, omega (arith, h.1), h.2, h.3)
  | inr h ↦ elim (d n) [
    | inl k ↦ inl (n, omega arith, k, h)
    | inr k ↦ inr (λ j l. elim (cases_eq j n) [ inl e ↦ subst (λ (i : ℕ). ¬ P i) (sym e) k | inr e ↦ h j (omega arith) ])
  ]
]

-- ---- calls

module _ {R : Type 0} (L : Lift) (G : Grading R) (tables : Tables) (s : State R) where
  Outcome : Call R → Type 0
  Outcome c = (a : Answer) × (e : State R) × Step L G tables s c a e

  module _ (p : Spot) (r : R) (o : s.is_open ≡ true) where
    outcome : {a : Answer} {e : State R} → Adds L G tables s p r a e → Outcome (add p r)
    unfolding Outcome
    outcome h = (_, _, adds o h)

    some_add : Outcome (add p r)
    some_add = elim (on_grid p) [
      | inr n ↦ outcome (off_grid n)
      | inl h4 ↦ elim (at_most p.penalty 1000000) [
        | inr n ↦ outcome (unpermitted h4 n)
        | inl h5 ↦ elim (passes (G.admits r)) [
          | inr n ↦ outcome (unadmitted h4 h5 n)
          | inl h6 ↦ elim (below (count s) tables.points) [
            | inr n ↦ outcome (points_full h4 h5 h6 n)
            | inl h7 ↦ elim (untaken p s.sites) [
              | inr n ↦ outcome (place_taken h4 h5 h6 h7 n)
              | inl h8 ↦ elim (passes (some (conflicts L s p) s.mesh)) [
                | inr n ↦ outcome (no_conflict h4 h5 h6 h7 h8 n)
                | inl h9 ↦ elim (at_most _ tables.tetrahedra) [
                  | inr n ↦ outcome (tetrahedra_full h4 h5 h6 h7 h8 h9 n)
                  | inl h10 ↦ elim (passes (closed (shell_at L s p))) [
                    | inr n ↦ outcome (shell_open h4 h5 h6 h7 h8 h9 h10 n)
                    | inl h11 ↦ last h4 h5 h6 h7 h8 h9 h10 h11
                  ]
                ]
              ]
            ]
          ]
        ]
      ]
    ]
      where
        last : OnGrid p → Permitted L G tables s p r → Admitted L G tables s p r → Room L G tables s p r → Untaken L G tables s p r → Conflicting L G tables s p r → Fitting L G tables s p r → Closed L G tables s p r → Outcome (add p r)
        last h4 h5 h6 h7 h8 h9 h10 h11 = elim (lowest (λ q. ¬ Staying L G tables s p r q) gone (count s)) [
          | inl k ↦ outcome (point_vanishes h4 h5 h6 h7 h8 h9 h10 h11 k.0 k.1 k.2)
          | inr k ↦ outcome (added h4 h5 h6 h7 h8 h9 h10 h11 (λ q l. stay q (k q l)))
        ]
          where
            gone : (q : ℕ) → Decided (¬ Staying L G tables s p r q)
            gone q = elim (passes (stays (conflicts L s p) s.mesh q)) [ inl e ↦ inr (λ n. n e) | inr e ↦ inl e ]

            stay : (q : ℕ) → ¬ (¬ Staying L G tables s p r q) → Staying L G tables s p r q
            stay q n = elim (passes (stays (conflicts L s p) s.mesh q)) [ inl e ↦ e | inr e ↦ absurd (n e) ]

  owner : (g : Spot) (t : Tet) → Decided (Owner s g t)
  owner g t = elim (passes (leads (figures_at (points s) g t first))) [
    | inr n ↦ inr (λ h. n (h first))
    | inl a ↦ elim (passes (leads (figures_at (points s) g t second))) [
      | inr n ↦ inr (λ h. n (h second))
      | inl b ↦ elim (passes (leads (figures_at (points s) g t third))) [
        | inr n ↦ inr (λ h. n (h third))
        | inl c ↦ elim (passes (leads (figures_at (points s) g t fourth))) [ inr n ↦ inr (λ h. n (h fourth)) | inl d ↦ inl (each a b c d) ]
      ]
    ]
  ]
    where
      each : leads (figures_at (points s) g t first) ≡ true → leads (figures_at (points s) g t second) ≡ true → leads (figures_at (points s) g t third) ≡ true → leads (figures_at (points s) g t fourth) ≡ true → Owner s g t
      each a b c d first = a
      each a b c d second = b
      each a b c d third = c
      each a b c d fourth = d

  some_locate : (g : Spot) → (a : Answer) × Locates s g a
  some_locate g = elim (on_grid g) [
    | inr n ↦ (_, nowhere n)
    | inl h ↦ elim (lowest (λ k. Owner s g (get_or s.mesh k big)) (λ k. owner g (get_or s.mesh k big)) (length s.mesh)) [
      | inl k ↦ (_, lowest_owner h k.0 k.1 k.2 k.3)
      | inr k ↦ (_, no_owner h (All-from_get_or (λ t. ¬ Owner s g t) s.mesh big k))
    ]
  ]

  pub some_answer : (c : Call R) → Permits s c → (a : Answer) × (e : State R) × Step L G tables s c a e
  unfolding Outcome
  some_answer (add p r) o = some_add p r o
  some_answer seal o = (_, _, seals o)
  some_answer (locate x y z) o = let h = some_locate (bare x y z) in (h.0, s, locates o h.1)
  some_answer state o = (_, _, states o)
