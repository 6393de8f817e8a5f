-- The numbers on the way to a determinant of three offsets fit 64 bits.
use Rattle.std.proofs.Common.{ℕ, ◌^◌, ◌<◌, ◌≤◌, ℤ, ◌-ℤ◌, ◌*ℤ◌, nat_abs, arith, w64, SFits}
use Rattle.algebra.proofs.Sizes.{abs_add, abs_sub, abs_mul, fits}
use Rattle.geometry.specs.declared.offset.Row.{Row}
use Rattle.geometry.specs.Limits.{Short, Small}
use Rattle.geometry.specs.Offsets.{Offset, Minors, expansion}

-- of a row of either kind
pub record RowFits {n : ℕ} (u : Row n) : Type 0 where
  pub x : SFits w64 u.x
  pub y : SFits w64 u.y
  pub z : SFits w64 u.z

pub row_fits : {n : ℕ} (u : Row n) → n < 2 ^ 63 → RowFits u
row_fits {n} u h = record { x = fits u.x n u.within.0 h; y = fits u.y n u.within.1 h; z = fits u.z n u.within.2 h }

pub record MinorFits (a b c d : ℤ) : Type 0 where
  pub one : SFits w64 (a *ℤ d)
  pub two : SFits w64 (b *ℤ c)
  pub whole : SFits w64 (a *ℤ d -ℤ b *ℤ c)
  pub size : Small (a *ℤ d -ℤ b *ℤ c)

pub minor_fits : (a b c d : ℤ) → Short a → Short b → Short c → Short d → MinorFits a b c d
minor_fits a b c d ha hb hc hd =
    let m = abs_mul a d ha hd in
    let n = abs_mul b c hb hc in
    let t = abs_sub (a *ℤ d) (b *ℤ c) m n in
    record {
      one = fits (a *ℤ d) 6553600 m (omega arith);
      two = fits (b *ℤ c) 6553600 n (omega arith);
      whole = fits (a *ℤ d -ℤ b *ℤ c) 13107200 t (omega arith);
      size = t;
    }

-- of a row and the minors below it
pub record ExpansionFits (u : Offset) (m : Minors) : Type 0 where
  pub row : RowFits u
  pub minors : RowFits m
  pub one : SFits w64 (u.x *ℤ m.x)
  pub two : SFits w64 (u.y *ℤ m.y)
  pub three : SFits w64 (u.z *ℤ m.z)
  pub less : SFits w64 (u.x *ℤ m.x -ℤ u.y *ℤ m.y)
  pub whole : SFits w64 (expansion u m)
  pub size : nat_abs (expansion u m) ≤ 100663296000

pub expansion_fits : (u : Offset) (m : Minors) → ExpansionFits u m
expansion_fits u m =
    let k = abs_mul u.x m.x u.within.0 m.within.0 in
    let l = abs_mul u.y m.y u.within.1 m.within.1 in
    let n = abs_mul u.z m.z u.within.2 m.within.2 in
    let kl = abs_sub (u.x *ℤ m.x) (u.y *ℤ m.y) k l in
    let all = abs_add (u.x *ℤ m.x -ℤ u.y *ℤ m.y) (u.z *ℤ m.z) kl n in
    record {
      row = row_fits u (omega arith);
      minors = row_fits m (omega arith);
      one = fits (u.x *ℤ m.x) 33554432000 k (omega arith);
      two = fits (u.y *ℤ m.y) 33554432000 l (omega arith);
      three = fits (u.z *ℤ m.z) 33554432000 n (omega arith);
      less = fits (u.x *ℤ m.x -ℤ u.y *ℤ m.y) 67108864000 kl (omega arith);
      whole = fits (expansion u m) 100663296000 all (omega arith);
      size = all;
    }
