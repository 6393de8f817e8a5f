use Rattle.std.proofs.Common.{◌+◌, ◌≤◌, sym, refl, ap}
use Rattle.std.proofs.lemmas.Result.{err_from_is_err_and}
use Rattle.words.specs.Reader
use Rattle.words.specs.Token.{entry}
use Rattle.words.proofs.Entries.{advances, found_entry, found_fault, sites_within}
use Rattle.words.proofs.reader.Reader.next.Goals as goal

pub returns-in_err-token-clause-next : goal.returns-in_err-token-clause-next
returns-in_err-token-clause-next g c =
    let p = err_from_is_err_and c.from_residual.result c.from_residual.ensures.1 in
    let fault = found_fault _ _ _ _ _ c.in_err-token.ensures in
    rw (p.1, p.2) (Reader.at_word _ (sym c.if-not-is_well_sized.ensures) c.if-self.false fault, record { word = refl; sites = refl; ended = refl })

pub invariant_of-self : goal.invariant_of-self
invariant_of-self g c =
    let e = entry c.in_ok-token.token in
    let on = advances _ _ _ _ e _ (found_entry _ _ _ _ e _ c.in_ok-token.ensures) in
    let counted = sites_within e _ c.args.self.now.sites _ c.args.self.now.within.1 on.on in
    let enough : c.args.self.now.sites + c.sites.result ≤ c.in_ok-token.after = rw c.sites.ensures.value counted in
    record { within = (on.within, enough) }

pub returns-clause-next : goal.returns-clause-next
returns-clause-next g c = record {
  sized = sym c.if-not-is_well_sized.ensures;
  going = c.if-self.false;
  read = found_entry _ _ _ _ _ _ c.in_ok-token.ensures;
  sites = ap (λ n. c.args.self.now.sites + n) c.sites.ensures.value;
  ended = c.is_end-self.ensures;
}

pub returns-then-not-is_well_sized-clause-next : goal.returns-then-not-is_well_sized-clause-next
returns-then-not-is_well_sized-clause-next g c =
    rw c.at.ensures (Reader.at_length (sym c.if-not-is_well_sized.ensures), record { word = refl; sites = refl; ended = refl })
