use Rattle.std.specs.Prelude.{string_bytes}
use Rattle.std.proofs.Common.{◌∷◌, []}
use Rattle.std.proofs.lemmas.Str.Ascii.{IsAscii-nil}
use Rattle.bech32_near.proofs.Made.{ascii_text, left_out_made, one_ascii, put_in_made, spelled_by, swap_made, two_ascii}
use Rattle.bech32_near.proofs.edits.texts.edited_text.Goals as goal

pub text_with-requires-clause-ascii : goal.text_with-requires-clause-ascii
text_with-requires-clause-ascii g c =
    let (hrp, data_part, new, is, e) = c.requires in
    (ascii_text c.args.text.now hrp data_part is, two_ascii _ _ c.to_char.ensures.ascii c.to_char-in-Swapped.ensures.ascii)

pub text_with-requires-in-LeftOut-clause-ascii : goal.text_with-requires-in-LeftOut-clause-ascii
text_with-requires-in-LeftOut-clause-ascii g c =
    let (hrp, data_part, new, is, e) = c.requires in
    (ascii_text c.args.text.now hrp data_part is, IsAscii-nil)

pub text_with-requires-in-PutIn-clause-ascii : goal.text_with-requires-in-PutIn-clause-ascii
text_with-requires-in-PutIn-clause-ascii g c =
    let (hrp, data_part, new, is, e) = c.requires in
    (ascii_text c.args.text.now hrp data_part is, one_ascii _ c.to_char-in-PutIn.ensures.ascii)

pub returns-in-Swapped : goal.returns-in-Swapped
returns-in-Swapped g c =
    let text = c.args.text.now in
    let edit = c.args.edit in
    spelled_by string_bytes c.text_with.result _ edit text
    (λ hrp data_part new is e.
    swap_made edit text hrp data_part new is e c.in-Swapped.higher c.in-Swapped.lower c.in-Swapped.is _ (λ i. c.to_char.ensures.value i ∷ c.to_char-in-Swapped.ensures.value i ∷ []))
    c.text_with.ensures

pub returns-in-LeftOut : goal.returns-in-LeftOut
returns-in-LeftOut g c =
    let text = c.args.text.now in
    let edit = c.args.edit in
    spelled_by string_bytes c.text_with-in-LeftOut.result _ edit text
    (λ hrp data_part new is e. left_out_made edit text hrp data_part new is e c.in-LeftOut.field-0 c.in-LeftOut.is)
    c.text_with-in-LeftOut.ensures

pub returns-in-PutIn : goal.returns-in-PutIn
returns-in-PutIn g c =
    let text = c.args.text.now in
    let edit = c.args.edit in
    spelled_by string_bytes c.text_with-in-PutIn.result _ edit text
    (λ hrp data_part new is e.
    put_in_made edit text hrp data_part new is e c.in-PutIn.element c.in-PutIn.is _ (λ i. c.to_char-in-PutIn.ensures.value i ∷ []))
    c.text_with-in-PutIn.ensures
