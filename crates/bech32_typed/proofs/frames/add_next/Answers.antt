use Rattle.std.proofs.Common.{◌≡◌, ◌∙◌, ◌+◌, suc, ap, arith, drop, length, map, sym}
use Rattle.std.proofs.lemmas.List.{drop-map, length-map}
use Rattle.bech32_typed.specs.Frames.{frames_before, made_by, with_frames}
use Rattle.bech32_typed.proofs.frames.add_next.Goals as goal

pub returns-clause-all : goal.returns-clause-all
returns-clause-all g c =
    let more : suc c.args.slips ≡ c.args.slips + 1 = omega arith in
    c.in_ok-add_frames.ensures
    ∙ ap (λ b. with_frames b (made_by c.args.slips c.args.text.now)) c.requires
    ∙ ap (λ k. frames_before k c.args.text.now) more

pub returns-clause-new : goal.returns-clause-new
returns-clause-new g c =
    let text = c.args.text.now in
    let slips = c.args.slips in
    sym (drop-map (λ f. f.items) c.len-before.result c.add_frames.new.frames.keys)
    ∙ ap (λ n. drop n (map (λ f. f.items) c.add_frames.new.frames.keys))
    (c.len-before.ensures.len ∙ sym (length-map c.args.frames.now.keys (λ f. f.items)) ∙ ap length c.requires)
    ∙ ap (drop (length (frames_before slips text)))
    (c.in_ok-add_frames.ensures ∙ ap (λ b. with_frames b (made_by slips text)) c.requires)
