use Rattle.std.proofs.Common.{◌≡◌, List, ℕ, ◌++◌, ◌∙◌, ap, sym}
use Rattle.std.proofs.lemmas.List.{nil_from_length}
use Rattle.std.specs.Str.Iter.{chars_rest}
use Rattle.bech32_gf.specs.Alphabet.{is_data}
use Rattle.codex32.specs.Damaged.{read_data}
use Rattle.codex32.proofs.ReadTexts.{passed_more, stranger_there}
use Rattle.codex32.proofs.damaged.validate_data.Goals as goal

pub returns-then-not-is_data_character : goal.returns-then-not-is_data_character
returns-then-not-is_data_character c =
    let (behind, whole, data_part) = c.behind.invariant in
    stranger_there c.args.damaged.now (chars_rest c.behind.front) (chars_rest c.next_back.new.self) behind c.in-Some.c c.utf8.damaged c.is_data_character.ensures.scalar c.requires whole
    c.in-Some.ensures.steps data_part (sym c.is_data_character.ensures.value ∙ c.if-not-is_data_character.true)

pub behind-preserved : goal.behind-preserved
behind-preserved c =
    let (behind, whole, data_part) = c.behind.invariant in
    passed_more c.args.damaged.now (chars_rest c.behind.front) (chars_rest c.next_back.new.self) behind c.in-Some.c whole c.in-Some.ensures.steps data_part
    (sym c.is_data_character.ensures.value ∙ c.if-not-is_data_character.false)

pub returns : goal.returns
returns c =
    let (behind, whole, data_part) = c.behind.invariant in
    let none = nil_from_length _ c.in_default.ensures.steps.0 in
    let same : c.args.damaged.now ≡ behind = whole ∙ ap (λ (x : List ℕ). x ++ behind) none in
    ap (λ (t : List ℕ). is_data (read_data t)) same ∙ data_part
