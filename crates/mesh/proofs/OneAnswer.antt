-- A call has one answer, but for the point that it names, and leaves one state.
use Rattle.std.proofs.Common.{◌≡◌, ℕ, ◌<◌, ◌⊎◌, sym, refl, ap, ◌∙◌, inl, inr, arith}
use Rattle.std.proofs.ByRecursion.{All-get_or}
use Rattle.std.proofs.lemmas.Bool.{cases_lt, cases_eq}
use Rattle.geometry.specs.Lifts.{Lift}
use Rattle.geometry.specs.Spots.{Spot, bare}
use Rattle.mesh.specs.Adding.{Permitted, Admitted, Room, Untaken, Conflicting, Fitting, Closed, Staying, with_site, Adds, off_grid, unpermitted, unadmitted, points_full, place_taken, no_conflict, tetrahedra_full, shell_open, point_vanishes, added}
use Rattle.mesh.specs.Past.{Owner, Locates, nowhere, no_owner, lowest_owner, Step, adds, seals, locates, states}
use Rattle.mesh.specs.Soundness.{unnamed}
use Rattle.mesh.specs.Surveys.{Grading, Tables, Call, Answer, accepted, refused, found, State, count, OnGrid}
use Rattle.mesh.specs.Tetrahedra.{big}

-- a question is answered no and then N holds, or it is answered yes and then Y holds
abbrev Ask : (Q N Y : Type 0) → Type 0
Ask Q N Y = (¬ Q × N) ⊎ (Q × Y)

-- a question has one answer
ask : {Q N Y N' Y' R : Type 0} → (N → N' → R) → (Y → Y' → R) → Ask Q N Y → Ask Q N' Y' → R
ask f g (inl a) (inl b) = f a.1 b.1
ask f g (inl a) (inr b) = absurd (a.0 b.0)
ask f g (inr a) (inl b) = absurd (b.0 a.0)
ask f g (inr a) (inr b) = g a.1 b.1

-- the answer a is b, and the state e is f
abbrev Gives : {R : Type 0} → Answer → State R → Answer → State R → Type 0
Gives b f a e = (a ≡ b) × (e ≡ f)

gives : {R : Type 0} {b a a' : Answer} {f e e' : State R} → Gives b f a e → Gives b f a' e' → (a ≡ a') × (e ≡ e')
gives h k = (h.0 ∙ sym k.0, h.1 ∙ sym k.1)

module _ {R : Type 0} (L : Lift) (G : Grading R) (tables : Tables) (s : State R) (p : Spot) (r : R) where
  -- the questions of adding, one inside the other
  abbrev Asked : Answer → State R → Type 0
  Asked a e =
      Ask (OnGrid p) (Gives (refused 4) s a e)
      (Ask (Permitted L G tables s p r) (Gives (refused 5) s a e)
      (Ask (Admitted L G tables s p r) (Gives (refused 6) s a e)
      (Ask (Room L G tables s p r) (Gives (refused 7) s a e)
      (Ask (Untaken L G tables s p r) (Gives (refused 8) s a e)
      (Ask (Conflicting L G tables s p r) (Gives (refused 9) s a e)
      (Ask (Fitting L G tables s p r) (Gives (refused 10) s a e)
      (Ask (Closed L G tables s p r) (Gives (refused 11) s a e)
      (Ask ((q : ℕ) → q < count s → Staying L G tables s p r q) (Gives (refused 12) s a e)
      (Gives (accepted (count s)) (with_site L s p r) a e)))))))))

  asked : (a : Answer) (e : State R) → Adds L G tables s p r a e → Asked (unnamed a) e
  asked a e (off_grid h) = inl (h, (refl, refl))
  asked a e (unpermitted h4 h) = inr (h4, inl (h, (refl, refl)))
  asked a e (unadmitted h4 h5 h) = inr (h4, inr (h5, inl (h, (refl, refl))))
  asked a e (points_full h4 h5 h6 h) = inr (h4, inr (h5, inr (h6, inl (h, (refl, refl)))))
  asked a e (place_taken h4 h5 h6 h7 h) = inr (h4, inr (h5, inr (h6, inr (h7, inl (h, (refl, refl))))))
  asked a e (no_conflict h4 h5 h6 h7 h8 h) = inr (h4, inr (h5, inr (h6, inr (h7, inr (h8, inl (h, (refl, refl)))))))
  asked a e (tetrahedra_full h4 h5 h6 h7 h8 h9 h) = inr (h4, inr (h5, inr (h6, inr (h7, inr (h8, inr (h9, inl (h, (refl, refl))))))))
  asked a e (shell_open h4 h5 h6 h7 h8 h9 h10 h) = inr (h4, inr (h5, inr (h6, inr (h7, inr (h8, inr (h9, inr (h10, inl (h, (refl, refl)))))))))
  asked a e (point_vanishes h4 h5 h6 h7 h8 h9 h10 h11 q l h) = inr (h4, inr (h5, inr (h6, inr (h7, inr (h8, inr (h9, inr (h10, inr (h11, inl (λ k. h (k q l), (refl, refl))))))))))
  asked a e (added h4 h5 h6 h7 h8 h9 h10 h11 h12) = inr (h4, inr (h5, inr (h6, inr (h7, inr (h8, inr (h9, inr (h10, inr (h11, inr (h12, (refl, refl))))))))))

  one-add : (a a' : Answer) (e e' : State R) → Adds L G tables s p r a e → Adds L G tables s p r a' e' → (unnamed a ≡ unnamed a') × (e ≡ e')
  one-add a a' e e' h k = ask gives (ask gives (ask gives (ask gives (ask gives (ask gives (ask gives (ask gives (ask gives gives)))))))) (asked a e h) (asked a' e' k)

module _ {R : Type 0} (s : State R) (g : Spot) where
  one_locate : (a a' : Answer) → Locates s g a → Locates s g a' → unnamed a ≡ unnamed a'
  one_locate a a' (nowhere h) (nowhere k) = refl
  one_locate a a' (nowhere h) (no_owner k n) = absurd (h k)
  one_locate a a' (nowhere h) (lowest_owner k i l o f) = absurd (h k)
  one_locate a a' (no_owner h n) (nowhere k) = absurd (k h)
  one_locate a a' (no_owner h n) (no_owner k m) = refl
  one_locate a a' (no_owner h n) (lowest_owner k i l o f) = absurd (All-get_or (λ t. ¬ Owner s g t) s.mesh i big l n o)
  one_locate a a' (lowest_owner h i l o f) (nowhere k) = absurd (k h)
  one_locate a a' (lowest_owner h i l o f) (no_owner k n) = absurd (All-get_or (λ t. ¬ Owner s g t) s.mesh i big l n o)
  one_locate a a' (lowest_owner h i l o f) (lowest_owner k j m u v) = elim (cases_lt i j) [
    | inl x ↦ absurd (v i x o)
    | inr x ↦ elim (cases_eq i j) [ inl y ↦ ap found y | inr y ↦ absurd (f j (omega arith) u) ]
  ]

module _ {R : Type 0} (L : Lift) (G : Grading R) (tables : Tables) where
  pub one_answer : (s : State R) (c : Call R) (a a' : Answer) (e e' : State R) → Step L G tables s c a e → Step L G tables s c a' e' → (unnamed a ≡ unnamed a') × (e ≡ e')
  one_answer s c a a' e e' (adds {p} {r} o h) (adds u k) = one-add L G tables s p r a a' e e' h k
  one_answer s c a a' e e' (seals o) (seals u) = (refl, refl)
  one_answer s c a a' e e' (locates {x} {y} {z} o h) (locates u k) = (one_locate s (bare x y z) a a' h k, refl)
  one_answer s c a a' e e' (states o) (states u) = (refl, refl)
