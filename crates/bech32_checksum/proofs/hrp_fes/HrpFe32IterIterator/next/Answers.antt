use Rattle.std.proofs.Common.{◌≡◌, [], sym, drop, arith}
use Rattle.std.proofs.lemmas.Option.{slice_get_within}
use Rattle.bech32_checksum.specs.TextPolynomial.{hrp_elements}
use Rattle.bech32_checksum.proofs.HrpPlaces.{drop_of_some, drop_of_none, length-hrp_elements, fewer}
use Rattle.bech32_checksum.proofs.hrp_fes.HrpFe32IterIterator.next.Goals as goal

pub returns-in_err-fe-clause-steps : goal.returns-in_err-fe-clause-steps
returns-in_err-fe-clause-steps c =
    let s = c.args.self.now in
    let ended : drop s.place (hrp_elements s.bytes.now) ≡ [] = drop_of_none (hrp_elements s.bytes.now) s.place (sym c.in_err-fe.ensures) in
    rw c.from_residual.ensures (ended, ended)

pub overflow_add-self : goal.overflow_add-self
overflow_add-self c =
    let s = c.args.self.now in
    omega (arith, slice_get_within (hrp_elements s.bytes.now) s.place c.in_ok-fe.fe (sym c.in_ok-fe.ensures), length-hrp_elements s.bytes.now, s.short)

pub returns-clause-steps : goal.returns-clause-steps
returns-clause-steps c =
    let s = c.args.self.now in
    drop_of_some (hrp_elements s.bytes.now) s.place c.in_ok-fe.fe (sym c.in_ok-fe.ensures)

pub returns-clause-goes : goal.returns-clause-goes
returns-clause-goes c =
    let s = c.args.self.now in
    record {
      on = λ _. (tt, tt, fewer _ _ c.in_ok-fe.fe (drop_of_some (hrp_elements s.bytes.now) s.place c.in_ok-fe.fe (sym c.in_ok-fe.ensures)));
      keeps = tt;
      rests = λ _. tt;
    }
