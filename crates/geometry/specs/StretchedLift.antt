-- The stretched lift: the square of each coordinate, as often as the stretch along it says.
use Rattle.std.specs.Prelude.{◌≡◌, ℕ, ◌+◌, ◌*◌, Ok, Err, Result}
use Rattle.geometry.specs.declared.stretched.Stretched.{Stretched}
use Rattle.geometry.specs.declared.stretched.StretchOutOfRange.{StretchOutOfRange}
use Rattle.geometry.specs.Lifts.{Lift}
use Rattle.geometry.specs.Limits.{Stretch}

abbrev pub stretched : (α β γ : ℕ) → Lift
stretched α β γ s = α * (s.x * s.x) + β * (s.y * s.y) + γ * (s.z * s.z)

-- what the measure means
abbrev pub stretched_by : Stretched → Lift
stretched_by m = stretched m.alpha m.beta m.gamma

-- the number of the refusal to make a stretched measure
abbrev pub refusal : StretchOutOfRange → ℕ
refusal _ = 14

-- the measure is made exactly where each of its numbers is a stretch, and then has these stretches
abbrev pub Made : (alpha beta gamma : ℕ) → Result Stretched StretchOutOfRange → Type 0
Made α β γ (Ok m) = (m.alpha ≡ α) × (m.beta ≡ β) × (m.gamma ≡ γ) × (Stretch α) × (Stretch β) × (Stretch γ)
Made α β γ (Err e) = (Stretch α × Stretch β × Stretch γ → ⊥) × (refusal e ≡ 14)
