-- Side and Depth as expressions of the ring solver.
use Rattle.std.proofs.Common.{ℕ, ◌+◌, ◌*◌, List, [], ◌∷◌, ℤ}
use Rattle.algebra.specs.Rings.{Expr, var, ◌⊕◌, ◌⊖◌, ◌⊗◌}
use Rattle.geometry.specs.Lifts.{Lifted}

-- a lifted point whose numbers are expressions
pub record Symbol : Type 0 where
  pub x : Expr
  pub y : Expr
  pub z : Expr
  pub lift : Expr

-- the k-th point of the list that `coordinates` takes
abbrev pub symbol : ℕ → Symbol
symbol k = record { x = var (k * 4); y = var (k * 4 + 1); z = var (k * 4 + 2); lift = var (k * 4 + 3) }

abbrev pub coordinates : List Lifted → List ℤ
coordinates [] = []
coordinates (p ∷ ps) = p.x ∷ p.y ∷ p.z ∷ p.lift ∷ coordinates ps

abbrev pub det_expr : (a b c d e f g h i : Expr) → Expr
det_expr a b c d e f g h i = a ⊗ (e ⊗ i ⊖ f ⊗ h) ⊖ b ⊗ (d ⊗ i ⊖ f ⊗ g) ⊕ c ⊗ (d ⊗ h ⊖ e ⊗ g)

abbrev pub side_expr : (a b c d : Symbol) → Expr
side_expr a b c d =
    det_expr (b.x ⊖ a.x) (b.y ⊖ a.y) (b.z ⊖ a.z)
    (c.x ⊖ a.x) (c.y ⊖ a.y) (c.z ⊖ a.z)
    (d.x ⊖ a.x) (d.y ⊖ a.y) (d.z ⊖ a.z)

abbrev pub depth_expr : (a b c d e : Symbol) → Expr
depth_expr a b c d e =
    side_expr e b c d ⊗ (a.lift ⊖ e.lift) ⊕ side_expr a e c d ⊗ (b.lift ⊖ e.lift)
    ⊕ side_expr a b e d ⊗ (c.lift ⊖ e.lift) ⊕ side_expr a b c e ⊗ (d.lift ⊖ e.lift)

-- the same of points by their numbers in the list
abbrev pub S : (a b c d : ℕ) → Expr
S a b c d = side_expr (symbol a) (symbol b) (symbol c) (symbol d)

abbrev pub D : (a b c d e : ℕ) → Expr
D a b c d e = depth_expr (symbol a) (symbol b) (symbol c) (symbol d) (symbol e)
