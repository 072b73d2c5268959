use Rattle.std.specs.Prelude.{string_bytes}
use Rattle.std.proofs.Common.{ℕ, List, ap, map, refl, subst}
use Rattle.bech32_hrp.specs.HrpBytes.{hrp_bytes}
use Rattle.bech32_suggest.specs.Suggestions.{IsAddressUnder}
use Rattle.bech32_meant.specs.Added.{AddsAll, AddsIf, Answer}
use Rattle.bech32_meant.specs.Added.{front_for}
use Rattle.bech32_meant.specs.Meant.{AreFoundBySlips, itself}
use Rattle.bech32_meant.proofs.Complete.{answers}
use Rattle.bech32_meant.proofs.search.push_found.Given.{Over}
use Rattle.bech32_meant.proofs.search.push_found.Goals as goal

found_is : (g : Over) (c : goal.In_ok-push_slips-3 g) → AreFoundBySlips (hrp_bytes c.args.hrp.now) c.args.text.now c.args.fronts.now (map (λ s. (string_bytes s.text, s.slips)) c.push_slips-3.new.found.items)
found_is g c =
    let Adds = AddsIf (IsAddressUnder (hrp_bytes c.args.hrp.now)) 0 in
    let exact : List Answer = map (λ s. (string_bytes s.text, s.slips)) c.push_itself.new.found.items in
    record {
      exact = exact;
      adds_itself =
          subst (λ (b : List Answer). AddsAll Adds b (itself (front_for (hrp_bytes c.args.hrp.now)) c.args.text.now c.args.fronts.now) exact) (ap (map (λ s. (string_bytes s.text, s.slips))) c.requires.empty)
          (subst (λ (r : List ℕ). AddsAll Adds (map (λ s. (string_bytes s.text, s.slips)) c.args.found.now.items) (itself r c.args.text.now c.args.fronts.now) exact) c.requires.right
          c.in_ok-push_itself.ensures);
      adds = (_, c.in_ok-push_slips.ensures, (_, c.in_ok-push_slips-2.ensures, (_, c.in_ok-push_slips-3.ensures, refl)));
    }

pub returns-clause-value : goal.returns-clause-value
returns-clause-value g c = found_is g c

pub returns-clause-answers : goal.returns-clause-answers
returns-clause-answers g c = answers (hrp_bytes c.args.hrp.now) c.args.text.now c.args.fronts.now _ (found_is g c)
