-- Side, the signed volume of four points in order, in sixths of a cubic decimetre.
use Rattle.std.specs.Prelude.{◌≡◌, ℤ, ◌+ℤ◌, ◌-ℤ◌, ◌*ℤ◌, neg_ℤ}
use Rattle.geometry.specs.Lifts.{Lifted}

-- the determinant of the rows (a b c), (d e f), (g h i)
unfoldable pub det : (a b c d e f g h i : ℤ) → ℤ
det a b c d e f g h i = a *ℤ (e *ℤ i -ℤ f *ℤ h) -ℤ b *ℤ (d *ℤ i -ℤ f *ℤ g) +ℤ c *ℤ (d *ℤ h -ℤ e *ℤ g)

-- the determinant of the rows b - a, c - a and d - a
unfoldable pub side : (a b c d : Lifted) → ℤ
unfolding det
side a b c d =
    det (b.x -ℤ a.x) (b.y -ℤ a.y) (b.z -ℤ a.z)
    (c.x -ℤ a.x) (c.y -ℤ a.y) (c.z -ℤ a.z)
    (d.x -ℤ a.x) (d.y -ℤ a.y) (d.z -ℤ a.z)

-- any swap of two points negates Side, and a fifth point, put for each of the four in turn, splits it
pub record SideLaws : Type 0 where
  pub swap_12 : (a b c d : Lifted) → side b a c d ≡ neg_ℤ (side a b c d)
  pub swap_13 : (a b c d : Lifted) → side c b a d ≡ neg_ℤ (side a b c d)
  pub swap_14 : (a b c d : Lifted) → side d b c a ≡ neg_ℤ (side a b c d)
  pub swap_23 : (a b c d : Lifted) → side a c b d ≡ neg_ℤ (side a b c d)
  pub swap_24 : (a b c d : Lifted) → side a d c b ≡ neg_ℤ (side a b c d)
  pub swap_34 : (a b c d : Lifted) → side a b d c ≡ neg_ℤ (side a b c d)
  pub split : (a b c d p : Lifted) → side a b c d ≡ side p b c d +ℤ side a p c d +ℤ side a b p d +ℤ side a b c p
