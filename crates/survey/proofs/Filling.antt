-- A list filled from the front.
use Rattle.std.proofs.Common.{◌≡◌, ℕ, ◌+◌, ◌<◌, Bool, true, false, List, [], ◌∷◌, ◌++◌, map, length, get_or, take, set, sym, ap, ◌∙◌, arith}
use Rattle.std.proofs.lemmas.List.{append-nil, append_assoc, map_push, map_more, take_more_set}
use Rattle.mesh.proofs.Ranks.{passing_more}
use Rattle.mesh.specs.Added.{passing, rank}
use Rattle.survey.proofs.Holes.{rank_yes, rank_no}

module _ {X : Type 0} (f : ℕ → X) (p : ℕ → Bool) (xs : List X) (k : ℕ) where
  pub filled_yes : (v : ℕ) (x : X) {ys : List X} → p k ≡ true → v ≡ rank p k → v < length xs → ys ≡ set xs v x → x ≡ f k → take (rank p k) xs ≡ map f (passing p k) → take (rank p (k + 1)) ys ≡ map f (passing p (k + 1))
  filled_yes v x e at room is here h =
      let next : rank p (k + 1) ≡ v + 1 = omega (arith, rank_yes p k e) in
      rw (next, is, take_more_set xs v x room, at, h, here) (sym (ap (map f) (passing_more p k ∙ rw e) ∙ map_push f (passing p k) k))

  pub filled_no : {ys : List X} → p k ≡ false → ys ≡ xs → take (rank p k) xs ≡ map f (passing p k) → take (rank p (k + 1)) ys ≡ map f (passing p (k + 1))
  filled_no e is h = rw (is, rank_no p k e, h) (sym (ap (map f) (passing_more p k ∙ rw e (append-nil (passing p k)))))

pub filled_more : {X Y : Type 0} (f : Y → X) (front xs : List X) (ss : List Y) (n m : ℕ) (x : X) (d : Y) {ys : List X}
    → m < length ss → n + m < length xs → ys ≡ set xs (n + m) x → x ≡ f (get_or ss m d) → take (n + m) xs ≡ front ++ map f (take m ss) → take (n + (m + 1)) ys ≡ front ++ map f (take (m + 1) ss)
filled_more f front xs ss n m x d l room is here h =
    let next : n + (m + 1) ≡ n + m + 1 = omega arith in
    rw (next, is, take_more_set xs (n + m) x room, h, here, map_more f ss m d l) (append_assoc front (map f (take m ss)) (f (get_or ss m d) ∷ []))
