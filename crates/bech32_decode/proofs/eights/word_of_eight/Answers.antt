use Rattle.std.proofs.Common.{◌∙◌, get_or, ap}
use Rattle.bech32_gf.specs.Fe32.{elements_of}
use Rattle.bech32_decode.specs.Cases.{lower_count, upper_count}
use Rattle.bech32_decode.proofs.EightAtOnce.{first_eight-is, word_is}
use Rattle.bech32_decode.proofs.eights.word_of_eight.Goals as goal

parts : goal.returns-clause-elements
parts c =
    let cs = c.args.characters.now in
    (word_is (get_or cs 0 0) (get_or cs 1 0) (get_or cs 2 0) (get_or cs 3 0) (get_or cs 4 0) (get_or cs 5 0) (get_or cs 6 0) (get_or cs 7 0) _ (cc)).0
    ∙ ap elements_of (first_eight-is cs c.requires)

pub returns-clause-elements : goal.returns-clause-elements
returns-clause-elements c = parts c

pub returns-clause-lower : goal.returns-clause-lower
returns-clause-lower c =
    let cs = c.args.characters.now in
    (word_is (get_or cs 0 0) (get_or cs 1 0) (get_or cs 2 0) (get_or cs 3 0) (get_or cs 4 0) (get_or cs 5 0) (get_or cs 6 0) (get_or cs 7 0) _ (cc)).1
    ∙ ap lower_count (first_eight-is cs c.requires)

pub returns-clause-upper : goal.returns-clause-upper
returns-clause-upper c =
    let cs = c.args.characters.now in
    (word_is (get_or cs 0 0) (get_or cs 1 0) (get_or cs 2 0) (get_or cs 3 0) (get_or cs 4 0) (get_or cs 5 0) (get_or cs 6 0) (get_or cs 7 0) _ (cc)).2
    ∙ ap upper_count (first_eight-is cs c.requires)
