use Rattle.std.proofs.Common.{rules, ◌≡◌, ◌∙◌, sym, ap, map, true}
use Rattle.bech32_typed.specs.Frames.{is_frame}
use Rattle.bech32_typed.proofs.Adding.{adds, inserted}
use Rattle.bech32_typed.proofs.frames.add_frame.Goals as goal

pub returns : goal.returns
returns g c =
    let before = map (λ f. f.items) c.args.frames.now.keys in
    let text = c.args.frame.items in
    let frame : is_frame text ≡ true = search rules in
    ap (map (λ f. f.items)) c.in_ok-insert.ensures.keys ∙ inserted c.args.frame c.args.frames.now.keys ∙ sym (adds before text frame)
