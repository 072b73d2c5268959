use Rattle.std.proofs.Common.{◌-◌, ℕ, get_or, drop, [], ◌∷◌, ◌++◌, arith, sym, ap, ◌∙◌}
use Rattle.std.specs.Prelude.{reverse}
use Rattle.std.proofs.lemmas.List.{append_assoc}
use Rattle.bech32_poly.proofs.Registers.{reverse_cons}
use Rattle.bech32_bch.proofs.Loops.{drop_before}
use Rattle.bech32_bch.proofs.locations.push_turned.Goals as goal

pub loop-i-preserved : goal.loop-i-preserved
loop-i-preserved g c =
    let i : ℕ = c.loop-i.i in
    let items = c.args.items.now in
    let first = c.args.list.now in
    let x : ℕ = get_or items (i - 1) 0 in
    record {
      within = omega arith;
      so_far = c.in_ok-push.ensures.ok ∙ ap (λ u. u ++ (x ∷ [])) c.loop-i.invariant.so_far
          ∙ append_assoc first (reverse (drop i items)) (x ∷ [])
          ∙ ap (λ u. first ++ u) (sym (ap reverse (drop_before items i 0 (omega arith) (omega arith)) ∙ reverse_cons x (drop i items)));
    }
