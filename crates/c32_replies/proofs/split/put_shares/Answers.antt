use Rattle.std.proofs.Common.{◌≡◌, ◌∙◌, ◌*◌, ℕ, List, None, length, min, take, sym, ap, subst, arith}
use Rattle.std.proofs.lemmas.List.{length-take}
use Rattle.std.proofs.lemmas.Result.{err_from_is_err_and}
use Rattle.bech32_hrp.specs.Hrp.{first_of}
use Rattle.codex32.specs.HeaderParts.{identifier_word_fault}
use Rattle.codex32.specs.Split.{IsSplit, Recovers, split_refusal}
use Rattle.codex32.specs.declared.identifier.Identifier.{Identifier}
use Rattle.codex32.specs.declared.threshold.Threshold.{Threshold}
use Rattle.c32_replies.specs.Request.{asked_by}
use Rattle.c32_replies.specs.Split.{IsAskedBy, set_word_fault, split_fault}
use Rattle.c32_replies.proofs.Shares.{same-refusal, whole-random, whole-secret}
use Rattle.c32_replies.proofs.split.put_shares.Goals as goal

pub returns-in_err-size : goal.returns-in_err-size
returns-in_err-size c =
    let (secret, digits, size, there) = c.in-Ok.ensures.put in
    let (random, random_digits, drawn, random_there) = c.in-Ok-put_bytes_of_word.ensures.put in
    let t : Threshold = c.in_ok-threshold.threshold in
    let count : ℕ = c.in-Some.count in
    let room : ℕ = length c.args.texts.now in
    let given : List ℕ = take c.min.result c.put_bytes_of_word.new.room in
    let taken : List ℕ = take c.min-2.result c.put_bytes_of_word-2.new.room in
    let few : length given ≡ min (length secret) 65 = omega (arith, length-take c.min.result c.put_bytes_of_word.new.room, c.min.ensures, size, c.in-Ok.ensures.size) in
    let some : length taken ≡ min (length random) 825 = omega (arith, length-take c.min-2.result c.put_bytes_of_word-2.new.room, c.min-2.ensures, drawn, c.in-Ok-put_bytes_of_word.ensures.size) in
    let whole : min (length random) 825 ≡ length random → taken ≡ random =
    λ fits. ap (λ (k : ℕ). take k c.put_bytes_of_word-2.new.room) (omega (arith, c.min-2.ensures, drawn, fits)) ∙ random_there (omega (arith, drawn, fits)) in
    let same : split_refusal t (length given) count taken room ≡ split_fault t count secret random =
    ap (λ (m : ℕ). split_refusal t m count taken room) few ∙ same-refusal t (length secret) count room random taken c.requires some whole in
    let fine : set_word_fault (asked_by c.args.words.now) ≡ None =
    ap (λ o. first_of o (identifier_word_fault c.args.words.now.identifier.now)) c.in_ok-threshold.ensures.0 ∙ c.in_ok-identifier.ensures.0 in
    let asked : IsAskedBy (asked_by c.args.words.now) count secret random t c.in_ok-identifier.identifier =
    record {
      read = record { count_is = c.in-Some.ensures; secret_is = digits; random_is = random_digits };
      of_split = record { fine = fine; threshold_is = c.in_ok-threshold.ensures.1; identifier_is = c.in_ok-identifier.ensures.1 };
    } in
    let p = err_from_is_err_and c.from_residual-in_err-size.result c.from_residual-in_err-size.ensures.1 in
    rw p.1 (rw p.2 (count, secret, random, t, c.in_ok-identifier.identifier, asked, sym same ∙ c.in_err-size.ensures.refused))

pub returns : goal.returns
returns c =
    let (secret, digits, size, there) = c.in-Ok.ensures.put in
    let (random, random_digits, drawn, random_there) = c.in-Ok-put_bytes_of_word.ensures.put in
    let t : Threshold = c.in_ok-threshold.threshold in
    let i : Identifier = c.in_ok-identifier.identifier in
    let count : ℕ = c.in-Some.count in
    let n : ℕ = c.in_ok-size.size in
    let room : ℕ = length c.args.texts.now in
    let texts : List ℕ = take (count * n) c.split_into.new.buffer in
    let given : List ℕ = take c.min.result c.put_bytes_of_word.new.room in
    let taken : List ℕ = take c.min-2.result c.put_bytes_of_word-2.new.room in
    let few : length given ≡ min (length secret) 65 = omega (arith, length-take c.min.result c.put_bytes_of_word.new.room, c.min.ensures, size, c.in-Ok.ensures.size) in
    let some : length taken ≡ min (length random) 825 = omega (arith, length-take c.min-2.result c.put_bytes_of_word-2.new.room, c.min-2.ensures, drawn, c.in-Ok-put_bytes_of_word.ensures.size) in
    let whole : min (length random) 825 ≡ length random → taken ≡ random =
    λ fits. ap (λ (k : ℕ). take k c.put_bytes_of_word-2.new.room) (omega (arith, c.min-2.ensures, drawn, fits)) ∙ random_there (omega (arith, drawn, fits)) in
    let same : split_refusal t (length given) count taken room ≡ split_fault t count secret random =
    ap (λ (m : ℕ). split_refusal t m count taken room) few ∙ same-refusal t (length secret) count room random taken c.requires some whole in
    let unrefused : split_fault t count secret random ≡ None = sym same ∙ c.in_ok-size.ensures.refused.0 in
    let short : min (length secret) 65 ≡ length secret = whole-secret t (length secret) count room random taken c.requires some whole unrefused in
    let all : given ≡ secret = ap (λ (k : ℕ). take k c.put_bytes_of_word.new.room) (omega (arith, c.min.ensures, size, short)) ∙ there (omega (arith, size, short)) in
    let every : taken ≡ random = whole (whole-random t (length secret) count room random taken c.requires some whole unrefused) in
    let fine : set_word_fault (asked_by c.args.words.now) ≡ None =
    ap (λ o. first_of o (identifier_word_fault c.args.words.now.identifier.now)) c.in_ok-threshold.ensures.0 ∙ c.in_ok-identifier.ensures.0 in
    let asked : IsAskedBy (asked_by c.args.words.now) count secret random t i =
    record {
      read = record { count_is = c.in-Some.ensures; secret_is = digits; random_is = random_digits };
      of_split = record { fine = fine; threshold_is = c.in_ok-threshold.ensures.1; identifier_is = c.in_ok-identifier.ensures.1 };
    } in (
      record {
        secret = secret;
        random = random;
        t = t;
        i = i;
        is_asked = asked;
        unrefused = unrefused;
        is_split = subst (λ (s : List ℕ). IsSplit t i s random count n texts) all (subst (λ (r : List ℕ). IsSplit t i given r count n texts) every c.in_ok-size.ensures.split);
        recovers = subst (λ (s : List ℕ). Recovers t i s count n texts) all c.in_ok-size.ensures.recovers;
      },
      omega (arith, c.in_ok-size.ensures.put.count_is, length-take (count * n) c.split_into.new.buffer),
    )
