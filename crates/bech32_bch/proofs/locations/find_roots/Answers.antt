use Rattle.std.proofs.Common.{rules, ◌≡◌, length, take, Result, Ok, Err, OnOk, sym, ap, ◌∙◌}
use Rattle.bech32_gf.specs.Powers.{powers_of}
use Rattle.bech32_poly.proofs.RootTerms.{length-powers, search_below}
use Rattle.bech32_bch.proofs.locations.find_roots.Goals as goal

on_ok : {T E : Type 0} (r : Result T E) (P Q : Type 0) → (P → Q) → OnOk r P → OnOk r Q
on_ok (Ok x) P Q f h = f h
on_ok (Err e) P Q f h = h

pub push_roots-requires : goal.push_roots-requires
push_roots-requires g c =
    let o = g.K.Arithmetic.ops in
    let l = g.met.K.Arithmetic.laws in
    let register = c.args.register.now in
    let terms_are : c.in_ok-terms.terms ≡ register = c.in_ok-terms.ensures.ok ∙ c.as_slice.ensures in
    let factors_are : c.as_slice-2.result.now ≡ powers_of o c.args.base 0 (length register) = c.as_slice-2.ensures ∙ c.in_ok-powers.ensures.powers ∙ ap (powers_of o c.args.base 0) c.len.ensures in
    let size : length c.as_slice-2.result.now ≡ length c.in_ok-terms.terms = ap (λ u. length u) factors_are ∙ length-powers l c.args.base (length register) ∙ sym (ap (λ u. length u) terms_are) in
    (search rules, (search rules, (size, c.requires)))

pub returns-clause-roots : goal.returns-clause-roots
returns-clause-roots g c =
    let o = g.K.Arithmetic.ops in
    let l = g.met.K.Arithmetic.laws in
    let register = c.args.register.now in
    let terms_are : c.in_ok-terms.terms ≡ register = c.in_ok-terms.ensures.ok ∙ c.as_slice.ensures in
    let factors_are : c.as_slice-2.result.now ≡ powers_of o c.args.base 0 (length register) = c.as_slice-2.ensures ∙ c.in_ok-powers.ensures.powers ∙ ap (powers_of o c.args.base 0) c.len.ensures in
    on_ok c.push_roots.result _ _ (λ e. e ∙ ap (take c.args.degree) (search_below l g.K.Arithmetic.same register c.in_ok-terms.terms c.as_slice-2.result.now c.args.base c.args.window terms_are factors_are)) c.push_roots.ensures.roots
