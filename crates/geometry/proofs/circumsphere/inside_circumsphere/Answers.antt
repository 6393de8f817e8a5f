use Rattle.geometry.specs.Points.{spot}
use Rattle.geometry.proofs.Circumspheres.{circumsphere, nearer_inside}
use Rattle.geometry.proofs.circumsphere.inside_circumsphere.Goals as goal

pub returns : goal.returns
returns c =
    let a = spot c.args.a.now in let b = spot c.args.b.now in let p = spot c.args.c.now in let q = spot c.args.d.now in let e = spot c.args.e.now in
    record {
      is = c.conflicts.ensures;
      centred = circumsphere a b p q;
      nearer = λ h. rw c.conflicts.ensures (nearer_inside a b p q e h);
    }
