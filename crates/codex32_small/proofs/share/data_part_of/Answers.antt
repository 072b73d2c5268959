use Rattle.std.proofs.Common.{ℕ, List, subst}
use Rattle.std.proofs.lemmas.Result.{MatchResult-weaker}
use Rattle.codex32.specs.Share.{IsShareRefusal}
use Rattle.codex32_calls.specs.declared.refusal.Refusal.TheVariants as refusals
use Rattle.codex32_small.specs.Parts.{HasDataPart}
use Rattle.codex32_small.proofs.share.data_part_of.Goals as goal

pub returns-in-Ok : goal.returns-in-Ok
returns-in-Ok c =
    let (same, utf8) = c.in-Ok.ensures in
    MatchResult-weaker c.data_part_in.result c.data_part_in.ensures
    (λ d has. subst (λ (t : List ℕ). HasDataPart t d.now) same has)
    (λ n h. record {
      refusal = refusals.Text h.refusal;
      holds = (utf8, subst (λ (t : List ℕ). IsShareRefusal t h.refusal) same h.holds);
      number = h.number;
    })
