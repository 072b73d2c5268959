use Rattle.std.proofs.Common.{◌∙◌, cond, leb, sym, Some, None}
use Rattle.std.proofs.lemmas.Bool.{cond-false, cond-true, le-leb, lt-leb, ltb-false, ltb-true}
use Rattle.bech32_hrp.specs.Hrp.{bad_case, is_graphic}
use Rattle.bech32_hrp.specs.declared.Error.TheVariants.{InvalidAsciiByte, MixedCase, NonAsciiChar}
use Rattle.codex32_steady.proofs.texts.parts.fault_by.Goals as goal

pub returns-then-not-is_ascii : goal.returns-then-not-is_ascii
returns-then-not-is_ascii c before =
    let x = c.args.c in
    let none = cond (is_graphic x) (cond (bad_case before x) (Some MixedCase) None) (Some (InvalidAsciiByte x)) in
    cond-true (leb 128 x) (Some (NonAsciiChar x)) none (le-leb 128 x (ltb-false x 128 (sym c.if-not-is_ascii.ensures)))

pub returns : goal.returns
returns c before =
    let x = c.args.c in
    let none = cond (bad_case before x) (Some MixedCase) None in
    cond-false (leb 128 x) (Some (NonAsciiChar x)) (cond (is_graphic x) none (Some (InvalidAsciiByte x))) (lt-leb 128 x (ltb-true x 128 (sym c.if-not-is_ascii.ensures)))
    ∙ cond-false (is_graphic x) none (Some (InvalidAsciiByte x)) c.requires
