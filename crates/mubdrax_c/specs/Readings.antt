-- Readings as plain data: what a record stands for, and the assay over such records.
use Rattle.std.specs.Prelude.{ℕ, Bool, cond, ◌&&◌, Some, None, Option, ◌==◌, nat_le}
use Rattle.grading.specs.Assay.{admitted_reading, assay_class, reading_of, whole}
use Rattle.grading.specs.declared.assay.Reading.{Reading}
use Rattle.grading.specs.declared.assay.Reading.TheVariants.{Measured, Below, Missing}
use Rattle.mubdrax_c.specs.declared.reading.ReadingRecord.{ReadingRecord}

-- kinds 0 to 2 are known
abbrev pub known_kind : ReadingRecord → Bool
known_kind r = nat_le r.kind 2

-- kind 0 is measured and kind 1 below; the others count as missing
abbrev pub stands_for : ReadingRecord → Reading
stands_for r = cond (r.kind == 0) (Measured r.amount) (cond (r.kind == 1) (Below r.amount) Missing)

abbrev pub admitted_record : ReadingRecord → Bool
admitted_record r = known_kind r && admitted_reading (stands_for r)

abbrev pub record_class : ReadingRecord → ReadingRecord → ReadingRecord → ReadingRecord → ℕ
record_class a b c d = assay_class (stands_for a) (stands_for b) (stands_for c) (stands_for d)

-- the record of a reading; a missing one has amount 0
abbrev pub as_record : Reading → ReadingRecord
as_record (Measured v) = record { kind = 0; amount = v }
as_record (Below v) = record { kind = 1; amount = v }
as_record Missing = record { kind = 2; amount = whole 0 }

abbrev pub as_records : Option Reading → Option ReadingRecord
as_records (Some r) = Some (as_record r)
as_records None = None

-- the record of the reading that a tag and a value of a survey word stand for
abbrev pub decoded_record : (tag value : ℕ) → Option ReadingRecord
decoded_record tag value = as_records (reading_of tag value)
