use Rattle.std.proofs.Common.{rules, ◌≡◌, ◌++◌, ◌∷◌, ◌<◌, [], ℕ, length, drop, sym, ap, refl, arith, ◌∙◌, length-append, Some}
use Rattle.std.proofs.lemmas.List.{append-nil}
use Rattle.std.specs.Iterator.{Count, IsFinite, MakesProgress, size}
use Rattle.std.specs.Iterator.Adapters.{copied_steps}
use Rattle.std.specs.Slice.Iter.{iter_steps}
use Rattle.bech32_bits.specs.Adaptor.{Adapts}
use Rattle.bech32_bits.specs.Bits.{to_bytes}
use Rattle.bech32_bits.specs.FesToBytes.{bytes_gives, bytes_source}
use Rattle.bech32_bits.proofs.AdaptorWalks.{Yields-append}
use Rattle.bech32_bits.proofs.ListSources.{ShowsRest-copied, copied_rest, from_slice, to_come-step}
use Rattle.bech32_decode.proofs.DataBytes.{byte_more, one_fits}
use Rattle.codex32_steady.proofs.texts.payload.put_bytes.Goals as goal

-- a byte that is given leaves fewer
fewer : {S A : Type 0} (can : S → Type 0) (left : S → Count) (s t : S) (x : A) → MakesProgress can left s (Some x) t → IsFinite (left s)
    → can t × IsFinite (left t) × (size (left t) < size (left s))
fewer can left s t x g h = g.on h

pub loop-byte-init : goal.loop-byte-init
loop-byte-init c = record { counted = omega arith; put = refl }

pub bounds-buffer-count : goal.bounds-buffer-count
bounds-buffer-count c =
    let made = c.fes_to_bytes-byte-items.ensures in
    let given = from_slice bytes_source bytes_gives to_bytes c.args.elements.now _ _ _ _ _ _ c.iter.ensures.rest c.copied.ensures.source made.source made.fresh made.gives c.into_iter-byte-iterator.ensures.into_iter_gives c.loop-byte.yielded_by in
    let step = to_come-step (copied_steps iter_steps) copied_rest ShowsRest-copied bytes_source bytes_gives _ _ _ c.in-Some.ensures.steps in
    let fits : length c.loop-byte.yielded < length (to_bytes c.args.elements.now) = one_fits c.loop-byte.yielded (to_bytes c.args.elements.now) _ _ c.in-Some.byte (sym given) step in
    omega (arith, c.requires, fits, c.loop-byte.invariant.counted)

pub loop-byte-preserved-whole : goal.loop-byte-preserved-whole
loop-byte-preserved-whole c =
    let made = c.fes_to_bytes-byte-items.ensures in
    let given = from_slice bytes_source bytes_gives to_bytes c.args.elements.now _ _ _ _ _ _ c.iter.ensures.rest c.copied.ensures.source made.source made.fresh made.gives c.into_iter-byte-iterator.ensures.into_iter_gives c.loop-byte.yielded_by in
    let step = to_come-step (copied_steps iter_steps) copied_rest ShowsRest-copied bytes_source bytes_gives _ _ _ c.in-Some.ensures.steps in
    let fits : length c.loop-byte.yielded < length (to_bytes c.args.elements.now) = one_fits c.loop-byte.yielded (to_bytes c.args.elements.now) _ _ c.in-Some.byte (sym given) step in
    let p = fewer _ _ _ _ c.in-Some.byte c.in-Some.ensures.goes c.loop-byte.iterator.1 in (
      (p.0, p.1),
      (
        c.loop-byte.yielded ++ (c.in-Some.byte ∷ []),
        (
          Yields-append (Adapts (copied_steps iter_steps) bytes_source bytes_gives) c.into_iter-byte-iterator.result c.loop-byte.yielded c.loop-byte.byte-iterator (c.in-Some.byte ∷ []) c.next.new.self c.loop-byte.yielded_by (c.next.new.self, c.in-Some.ensures.steps, refl),
          record {
            counted = omega (arith, length-append c.loop-byte.yielded (c.in-Some.byte ∷ []), c.loop-byte.invariant.counted);
            put = byte_more [] c.loop-byte.yielded c.args.buffer.now c.loop-byte.buffer 0 c.loop-byte.count c.in-Some.byte
                (omega arith) (omega (arith, c.loop-byte.invariant.counted)) (omega (arith, c.requires, fits, c.loop-byte.invariant.counted)) refl c.loop-byte.invariant.put;
          },
        ),
      ),
    )

pub returns-clause-count : goal.returns-clause-count
returns-clause-count c =
    let made = c.fes_to_bytes-byte-items.ensures in
    let given = from_slice bytes_source bytes_gives to_bytes c.args.elements.now _ _ _ _ _ _ c.iter.ensures.rest c.copied.ensures.source made.source made.fresh made.gives c.into_iter-byte-iterator.ensures.into_iter_gives c.loop-byte.yielded_by in
    let step = to_come-step (copied_steps iter_steps) copied_rest ShowsRest-copied bytes_source bytes_gives _ _ _ c.in-None.ensures.steps in
    let all : to_bytes c.args.elements.now ≡ c.loop-byte.yielded = given ∙ ap (λ u. c.loop-byte.yielded ++ u) step ∙ append-nil c.loop-byte.yielded in
    c.loop-byte.invariant.counted ∙ ap length (sym all)

pub returns-clause-buffer : goal.returns-clause-buffer
returns-clause-buffer c =
    let made = c.fes_to_bytes-byte-items.ensures in
    let given = from_slice bytes_source bytes_gives to_bytes c.args.elements.now _ _ _ _ _ _ c.iter.ensures.rest c.copied.ensures.source made.source made.fresh made.gives c.into_iter-byte-iterator.ensures.into_iter_gives c.loop-byte.yielded_by in
    let step = to_come-step (copied_steps iter_steps) copied_rest ShowsRest-copied bytes_source bytes_gives _ _ _ c.in-None.ensures.steps in
    let all : to_bytes c.args.elements.now ≡ c.loop-byte.yielded = given ∙ ap (λ u. c.loop-byte.yielded ++ u) step ∙ append-nil c.loop-byte.yielded in
    c.loop-byte.invariant.put ∙ ap (λ u. u ++ drop c.loop-byte.count c.args.buffer.now) (sym all)

pub overflow_add-count : goal.overflow_add-count
overflow_add-count c =
    let made = c.fes_to_bytes-byte-items.ensures in
    let given = from_slice bytes_source bytes_gives to_bytes c.args.elements.now _ _ _ _ _ _ c.iter.ensures.rest c.copied.ensures.source made.source made.fresh made.gives c.into_iter-byte-iterator.ensures.into_iter_gives c.loop-byte.yielded_by in
    let step = to_come-step (copied_steps iter_steps) copied_rest ShowsRest-copied bytes_source bytes_gives _ _ _ c.in-Some.ensures.steps in
    let fits : length c.loop-byte.yielded < length (to_bytes c.args.elements.now) = one_fits c.loop-byte.yielded (to_bytes c.args.elements.now) _ _ c.in-Some.byte (sym given) step in
    let short : c.loop-byte.count < length c.args.buffer.now = omega (arith, c.requires, fits, c.loop-byte.invariant.counted) in
    search (rules, short)

pub loop-byte-smaller : goal.loop-byte-smaller
loop-byte-smaller c = (fewer _ _ _ _ c.in-Some.byte c.in-Some.ensures.goes c.loop-byte.iterator.1).2
