use Rattle.std.specs.List.{list_all}
use Rattle.std.specs.Str.Iter.{chars_rest}
use Rattle.std.proofs.Math.Utf8.{encode}
use Rattle.std.proofs.Common.{◌≡◌, ℕ, ◌<◌, ◌≤◌, true, false, List, ◌++◌, ◌∙◌, length, take, drop, get_or, sym, ap, subst}
use Rattle.bech32_hrp.specs.Hrp.{is_graphic}
use Rattle.codex32_steady.proofs.FirstFault.{all-graphic, boundary-graphic, fault-at, stranger-behind}
use Rattle.codex32_steady.proofs.texts.parts.character_fault.Goals as goal

-- how many characters at the front are graphic
abbrev IsGraphicCount : List ℕ → ℕ → Type 0
IsGraphicCount text n = (n ≤ length text) × (list_all is_graphic (take n text) ≡ true) × (n < length text → is_graphic (get_or text n 0) ≡ false)

pub range_from-requires : goal.range_from-requires
range_from-requires c some =
    let (within, graphic, behind) = subst (λ (t : List ℕ). IsGraphicCount t c.graphic_count.result) c.as_bytes.ensures.value
    (c.graphic_count.ensures.bound, c.graphic_count.ensures.graphic, c.graphic_count.ensures.behind) in
    boundary-graphic c.args.front.now c.graphic_count.result c.utf8.front within graphic

pub fault_by-requires : goal.fault_by-requires
fault_by-requires c =
    let (within, graphic, behind) = subst (λ (t : List ℕ). IsGraphicCount t c.graphic_count.result) c.as_bytes.ensures.value
    (c.graphic_count.ensures.bound, c.graphic_count.ensures.graphic, c.graphic_count.ensures.behind) in
    let text = c.args.front.now in
    let n : ℕ = c.graphic_count.result in
    let is : drop n text ≡ encode c.in-Some.c ++ chars_rest c.next.new.self = sym c.range_from.ensures.value ∙ sym c.chars-behind.ensures.rest ∙ c.in-Some.ensures.steps.0 in
    stranger-behind text (chars_rest c.next.new.self) n c.in-Some.c is behind

pub returns-in_default : goal.returns-in_default
returns-in_default c =
    let (within, graphic, behind) = subst (λ (t : List ℕ). IsGraphicCount t c.graphic_count.result) c.as_bytes.ensures.value
    (c.graphic_count.ensures.bound, c.graphic_count.ensures.graphic, c.graphic_count.ensures.behind) in
    let text = c.args.front.now in
    let n : ℕ = c.graphic_count.result in
    let none : length (drop n text) ≡ 0 = ap length (sym c.range_from.ensures.value ∙ sym c.chars-behind.ensures.rest) ∙ c.in_default.ensures.steps.0.0 in
    all-graphic text n none graphic

pub returns : goal.returns
returns c =
    let (within, graphic, behind) = subst (λ (t : List ℕ). IsGraphicCount t c.graphic_count.result) c.as_bytes.ensures.value
    (c.graphic_count.ensures.bound, c.graphic_count.ensures.graphic, c.graphic_count.ensures.behind) in
    let text = c.args.front.now in
    let n : ℕ = c.graphic_count.result in
    let is : drop n text ≡ encode c.in-Some.c ++ chars_rest c.next.new.self = sym c.range_from.ensures.value ∙ sym c.chars-behind.ensures.rest ∙ c.in-Some.ensures.steps.0 in
    fault-at text (chars_rest c.next.new.self) n c.in-Some.c c.fault_by.result c.utf8.front c.requires.short c.requires.one_case within graphic is (c.fault_by.ensures (take n text))
