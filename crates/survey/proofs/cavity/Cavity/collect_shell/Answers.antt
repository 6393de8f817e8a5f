use Rattle.std.proofs.Common.{◌≡◌, ◌+◌, ◌*◌, ◌<◌, length, sym, refl, arith}
use Rattle.mesh.proofs.Ranks.{passing_at}
use Rattle.survey.specs.Cavity.{bare, face_number}
use Rattle.survey.proofs.Holes.{gathered_yes, gathered_no, placed_more, rank_le}
use Rattle.survey.proofs.cavity.Cavity.collect_shell.Goals as goal
use Rattle.survey.proofs.cavity.Cavity.collect_shell.Goals.{then-is_exposed, else-is_exposed}

pub offset_bounds-room-count : goal.offset_bounds-room-count
offset_bounds-room-count c = let few = rank_le (bare c.args.self.now.used.now c.args.self.now.dropped.now) (4 * c.loop-k.k + c.loop-slot.slot) in omega arith

pub overflow_add-count : goal.overflow_add-count
overflow_add-count c = let few = rank_le (bare c.args.self.now.used.now c.args.self.now.dropped.now) (4 * c.loop-k.k + c.loop-slot.slot) in omega arith

-- one shell face more is to come, so there is room
pub bounds-room-count : goal.bounds-room-count
bounds-room-count c =
    let more = passing_at (bare c.args.self.now.used.now c.args.self.now.dropped.now) (4 * length c.args.self.now.used.now) (4 * c.loop-k.k + c.loop-slot.slot) 0 (omega arith) (sym c.if-is_exposed.ensures) in
    omega (arith, more.0)

pub loop-slot-preserved : goal.loop-slot-preserved
loop-slot-preserved c =
    let p = bare c.args.self.now.used.now c.args.self.now.dropped.now in
    let next : 4 * c.loop-k.k + (c.loop-slot.slot + 1) ≡ 4 * c.loop-k.k + c.loop-slot.slot + 1 = omega arith in
    elim c.if-is_exposed.branch [
      | then-is_exposed w ↦
          let more = passing_at p (4 * length c.args.self.now.used.now) (4 * c.loop-k.k + c.loop-slot.slot) 0 (omega arith) (sym w.if-is_exposed.ensures) in
          let room : c.loop-slot.count < length c.loop-slot.room = omega (arith, more.0) in (
            gathered_yes face_number p c.loop-slot.room _ c.loop-slot.count (4 * c.loop-k.k + c.loop-slot.slot) room (sym w.if-is_exposed.ensures) w.room-is refl w.count-is next c.loop-slot.invariant.0,
            placed_more c.args.self.now.used.now c.loop-slot.room _ c.loop-slot.count room w.room-is w.count-is c.loop-k-test.true c.loop-slot.invariant.1,
          )
      | else-is_exposed w ↦ (
        gathered_no face_number p c.loop-slot.room c.loop-slot.count (4 * c.loop-k.k + c.loop-slot.slot) (sym w.if-is_exposed.ensures) w.room-is w.count-is next c.loop-slot.invariant.0,
        rw (w.room-is, w.count-is) c.loop-slot.invariant.1,
      )
    ]
