use Rattle.std.specs.Str.{IsUtf8}
use Rattle.std.specs.Prelude.{string_bytes}
use Rattle.std.proofs.Common.{◌≡◌, ◌++◌, ◌-◌, List, ℕ, length, take, drop, vec_items, subst, sym, ap, ◌∙◌}
use Rattle.std.proofs.lemmas.List.{take_rest}
use Rattle.std.proofs.lemmas.Slice.{pushed}
use Rattle.std.proofs.lemmas.Str.{IsAscii-append, IsAscii-drop, IsAscii-take, IsUtf8-from_ascii}
use Rattle.bech32_hrp.specs.Hrp.{lowered}
use Rattle.bech32_near.proofs.edits.texts.text_with.Goals as goal

pub from_utf8_unchecked-made-requires : goal.from_utf8_unchecked-made-requires
from_utf8_unchecked-made-requires g c =
    let text = c.args.text.now in
    let first : c.extend_from_slice.new.self.items ≡ take c.args.start text =
    pushed (take c.args.start text) c.in_ok-new.ensures.items c.in_ok-extend_from_slice.was c.extend_from_slice.ensures.items in
    let second : c.extend_from_slice-2.new.self.items ≡ take c.args.start text ++ c.args.middle.now =
    pushed c.args.middle.now first c.in_ok-extend_from_slice-2.was c.extend_from_slice-2.ensures.items in
    let third : c.extend_from_slice-3.new.self.items ≡ take c.args.start text ++ c.args.middle.now ++ take (length text - c.args.end) (drop c.args.end text) =
    pushed (take (length text - c.args.end) (drop c.args.end text)) second c.in_ok-extend_from_slice-3.was c.extend_from_slice-3.ensures.items in
    let held : c.extend_from_slice-3.new.self.items ≡ take c.args.start text ++ c.args.middle.now ++ drop c.args.end text =
    third ∙ ap (λ (u : List ℕ). take c.args.start text ++ c.args.middle.now ++ u) (take_rest text c.args.end) in
    subst IsUtf8 (sym held)
    (IsUtf8-from_ascii _ (IsAscii-append _ _ (IsAscii-append _ _ (IsAscii-take text c.args.start c.requires.ascii.0) c.requires.ascii.1) (IsAscii-drop text c.args.end c.requires.ascii.0)))

pub returns : goal.returns
returns g c =
    let text = c.args.text.now in
    let first : c.extend_from_slice.new.self.items ≡ take c.args.start text =
    pushed (take c.args.start text) c.in_ok-new.ensures.items c.in_ok-extend_from_slice.was c.extend_from_slice.ensures.items in
    let second : c.extend_from_slice-2.new.self.items ≡ take c.args.start text ++ c.args.middle.now =
    pushed c.args.middle.now first c.in_ok-extend_from_slice-2.was c.extend_from_slice-2.ensures.items in
    let third : c.extend_from_slice-3.new.self.items ≡ take c.args.start text ++ c.args.middle.now ++ take (length text - c.args.end) (drop c.args.end text) =
    pushed (take (length text - c.args.end) (drop c.args.end text)) second c.in_ok-extend_from_slice-3.was c.extend_from_slice-3.ensures.items in
    let held : c.extend_from_slice-3.new.self.items ≡ take c.args.start text ++ c.args.middle.now ++ drop c.args.end text =
    third ∙ ap (λ (u : List ℕ). take c.args.start text ++ c.args.middle.now ++ u) (take_rest text c.args.end) in
    let bytes : string_bytes c.from_utf8_unchecked-made.result ≡ c.extend_from_slice-3.new.self.items = ap vec_items c.from_utf8_unchecked-made.ensures.value in
    c.make_ascii_lowercase.ensures.bytes ∙ ap lowered (bytes ∙ held)
