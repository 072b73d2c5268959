use Rattle.std.proofs.Common.{◌≡◌, ◌++◌, ◌-◌, List, ℕ, length, take, drop, ap, ◌∙◌}
use Rattle.std.proofs.lemmas.List.{take_rest}
use Rattle.std.proofs.lemmas.Slice.{pushed}
use Rattle.bech32_descriptor.proofs.mends.text_with.Goals as goal

pub returns : goal.returns
returns g c =
    let text = c.args.text.now in
    let first : c.extend_from_slice.new.self.items ≡ take c.args.start text =
    pushed (take c.args.start text) c.in_ok-new.ensures.items c.in_ok-extend_from_slice.was c.extend_from_slice.ensures.items in
    let second : c.extend_from_slice-2.new.self.items ≡ take c.args.start text ++ c.args.middle.now =
    pushed c.args.middle.now first c.in_ok-extend_from_slice-2.was c.extend_from_slice-2.ensures.items in
    let third : c.extend_from_slice-3.new.self.items ≡ take c.args.start text ++ c.args.middle.now ++ take (length text - c.args.end) (drop c.args.end text) =
    pushed (take (length text - c.args.end) (drop c.args.end text)) second c.in_ok-extend_from_slice-3.was c.extend_from_slice-3.ensures.items in
    third ∙ ap (λ (u : List ℕ). take c.args.start text ++ c.args.middle.now ++ u) (take_rest text c.args.end)
