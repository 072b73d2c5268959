use Rattle.std.specs.Prelude.{◌||◌}
use Rattle.std.proofs.Common.{◌≡◌, ℕ, true, List, length, take, sym, ap, subst, ◌∙◌}
use Rattle.bech32_gf.specs.declared.gf32.Fe32.{Fe32}
use Rattle.codex32.specs.Encode.{IsEncodedPayload, is_long_payload_count, is_payload_count}
use Rattle.codex32.specs.Split.{IsHeaderOfParts, IsPayloadString, drawn, split_index, string_size, text_at}
use Rattle.codex32.proofs.DealtTexts.{length-drawn}
use Rattle.codex32.proofs.MadeTexts.{made-drawn}
use Rattle.codex32.proofs.dealing.put_drawn.Goals as goal

pub returns-clause-here : goal.returns-clause-here
returns-clause-here c =
    let random = c.args.random.now in
    let j = c.args.j in
    let text : List ℕ = take c.in-Ok.count c.encode_payload_into.new.buffer in
    let is : IsPayloadString c.args.threshold c.args.identifier (split_index j) (drawn random) text =
    record {
      header = c.header_at-header.result;
      header_is = subst (λ (x : Fe32). IsHeaderOfParts c.args.threshold c.args.identifier x c.header_at-header.result) c.index_of.ensures c.header_at-header.ensures;
      is_encoded = subst (λ (p : List Fe32). IsEncodedPayload c.header_at-header.result p text) c.put_low_bits.ensures c.in-Ok.ensures.text;
    } in
    let counted : is_payload_count (length (drawn random)) || is_long_payload_count (length (drawn random)) ≡ true =
    ap (λ (m : ℕ). is_payload_count m || is_long_payload_count m) (length-drawn random) ∙ c.requires.counted in
    let size : length text ≡ string_size (length random) =
    (made-drawn c.args.threshold c.args.identifier (split_index j) (drawn random) text counted is).size ∙ ap string_size (length-drawn random) in
    subst (λ (k : ℕ). IsPayloadString c.args.threshold c.args.identifier (split_index j) (drawn random) (text_at k c.put_at.new.texts j)) size
    (subst (IsPayloadString c.args.threshold c.args.identifier (split_index j) (drawn random)) (sym c.put_at.ensures.here) is)

pub returns-clause-before : goal.returns-clause-before
returns-clause-before c = λ i less.
    let random = c.args.random.now in
    let j = c.args.j in
    let text : List ℕ = take c.in-Ok.count c.encode_payload_into.new.buffer in
    let is : IsPayloadString c.args.threshold c.args.identifier (split_index j) (drawn random) text =
    record {
      header = c.header_at-header.result;
      header_is = subst (λ (x : Fe32). IsHeaderOfParts c.args.threshold c.args.identifier x c.header_at-header.result) c.index_of.ensures c.header_at-header.ensures;
      is_encoded = subst (λ (p : List Fe32). IsEncodedPayload c.header_at-header.result p text) c.put_low_bits.ensures c.in-Ok.ensures.text;
    } in
    let counted : is_payload_count (length (drawn random)) || is_long_payload_count (length (drawn random)) ≡ true =
    ap (λ (m : ℕ). is_payload_count m || is_long_payload_count m) (length-drawn random) ∙ c.requires.counted in
    let size : length text ≡ string_size (length random) =
    (made-drawn c.args.threshold c.args.identifier (split_index j) (drawn random) text counted is).size ∙ ap string_size (length-drawn random) in
    subst (λ (k : ℕ). text_at k c.put_at.new.texts i ≡ text_at k c.args.texts.now i) size (c.put_at.ensures.before i less)
