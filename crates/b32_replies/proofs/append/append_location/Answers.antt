use Rattle.std.proofs.Common.{ℕ, ◌+◌, ◌/◌, ◌%◌, ◌++◌, List, [], ◌∷◌, ◌∙◌, ap, sym, append_assoc}
use Rattle.std.specs.Fmt.{decimal}
use Rattle.b32_replies.proofs.LocationWords.{last_two}
use Rattle.b32_replies.proofs.append.append_location.Goals as goal

pub returns-else-location-lt100-clause-items : goal.returns-else-location-lt100-clause-items
returns-else-location-lt100-clause-items c =
    let n = c.args.location in
    let low = (48 + n / 10 % 10) ∷ (48 + n % 10) ∷ [] in
    c.append.ensures.items
    ∙ ap (λ (t : List ℕ). t ++ low) c.append_number-else-location-lt100.ensures.items
    ∙ append_assoc c.args.out.now.items (decimal (n / 100)) low
    ∙ ap (λ (t : List ℕ). c.args.out.now.items ++ t) (sym (last_two n c.if-location-lt100.false c.requires.small))
