use Rattle.std.proofs.Common.{◌≡◌, length, Option, Some, None, Result, Ok, Err, IfOk, IfSome, subst, arith}
use Rattle.std.specs.Prelude.{MatchOption, true, false}
use Rattle.bech32_poly.specs.Embedding.{Embeds}
use Rattle.bech32_poly.specs.Pattern.{inside, value_of_pattern_at}
use Rattle.bech32_bch.specs.Search.{IsCandidate}
use Rattle.bech32_bch.proofs.Candidates.{apart_inside, explained, found_values, listing_of, sums_of}
use Rattle.bech32_bch.proofs.decoder.decode_errors.Goals as goal

refused : {P : Type 0} → false ≡ true → P
refused h = absurd (cc h)

map_ok : {T E : Type 0} (r : Result T E) (P Q : T → Type 0) → ((t : T) → P t → Q t) → IfOk r P → IfOk r Q
map_ok (Ok t) P Q f h = f t h
map_ok (Err e) P Q f h = h

map_some : {A : Type 0} (a : Option A) (N : Type 0) (P Q : A → Type 0) → ((x : A) → P x → Q x) → MatchOption a N P → MatchOption a N Q
map_some (Some x) N P Q f h = f x h
map_some None N P Q f h = h

both_ok : {A E : Type 0} (r : Result (Option A) E) (P Q R : A → Type 0) → ((x : A) → P x → Q x → R x) → IfOk r (λ a. IfSome a P) → IfOk r (λ a. IfSome a Q) → IfOk r (λ a. IfSome a R)
both_ok (Ok (Some x)) P Q R f h k = f x h k
both_ok (Ok None) P Q R f h k = h
both_ok (Err e) P Q R f h k = h

pub returns-then-len-roots-clause-found : goal.returns-then-len-roots-clause-found
returns-then-len-roots-clause-found g c = λ generator e usable h. absurd (omega (arith, h.few, c.if-len-roots.true))

pub returns-in_err-list-clause-in_place : goal.returns-in_err-list-clause-in_place
returns-in_err-list-clause-in_place g c = λ few. refused (c.in_err-list.ensures.in_place (omega (arith, few)))

pub returns-in_err-found-clause-in_place : goal.returns-in_err-found-clause-in_place
returns-in_err-found-clause-in_place g c = λ few. refused (c.in_err-found.ensures.in_place (omega (arith, few, c.in_ok-list.ensures.size)))

pub returns-in_default-clause-found : goal.returns-in_default-clause-found
returns-in_default-clause-found g c =
    let f = g.E.Extension.base_ops in
    let o = g.E.Arithmetic.ops in
    let embed = g.E.Extension.embed in
    let into : Embeds f o embed = record { one = g.met.E.Extension.embed_one_law; add = g.met.E.Extension.embed_add_law; mul = g.met.E.Extension.embed_mul_law } in
    let apart = apart_inside embed g.E.Extension.retract g.met.E.Extension.retract_law in
    λ generator e usable h.
    rw c.in_default.is at (c.in_ok-found.ensures.found c.args.roots.start (inside embed e)
    (sums_of g.met.E.Extension.base_laws g.met.E.Arithmetic.laws into c.args.roots.base c.args.roots.start c.args.roots.count c.args.window generator c.args.residue.now c.args.erasures.now c.in_ok-list.list e apart usable c.in_ok-list.ensures.syndromes h))

pub returns-clause-listed : goal.returns-clause-listed
returns-clause-listed g c =
    let may = rw c.in-Some.is at c.in_ok-found.ensures.listed in
    subst (λ n. IfOk c.listed.result (λ answer. IfSome answer (λ listing. IsCandidate g.E.Extension.base_ops c.args.window c.args.erasures.now n listing))) c.in_ok-list.ensures.size
    (both_ok c.listed.result _ _ _ (λ listing placed values. record { errors = c.in-Some.found; are_errors = may; placed = placed; values = values }) c.listed.ensures.placed c.listed.ensures.not_zero)

pub returns-clause-found : goal.returns-clause-found
returns-clause-found g c =
    let f = g.E.Extension.base_ops in
    let fl = g.met.E.Extension.base_laws in
    let l = g.met.E.Arithmetic.laws in
    let o = g.E.Arithmetic.ops in
    let embed = g.E.Extension.embed in
    let into : Embeds f o embed = record { one = g.met.E.Extension.embed_one_law; add = g.met.E.Extension.embed_add_law; mul = g.met.E.Extension.embed_mul_law } in
    let apart = apart_inside embed g.E.Extension.retract g.met.E.Extension.retract_law in
    let s = c.args.erasures.now in
    let b = c.args.roots.base in
    let start = c.args.roots.start in
    let items = c.in_ok-list.list in
    let found = c.in-Some.found in
    let may = rw c.in-Some.is at c.in_ok-found.ensures.listed in
    map_ok c.listed.result _ _ (λ answer values generator e usable h.
    let pattern = h.pattern in
    let sums = sums_of fl l into b start c.args.roots.count c.args.window generator c.args.residue.now s items e apart usable c.in_ok-list.ensures.syndromes h in
    let are = rw c.in-Some.is at (c.in_ok-found.ensures.found start (inside embed e) sums) in
    map_some answer ⊥ _ _ (λ listing is. listing_of fl l into c.args.window s found e pattern are (length items) listing may is)
    (values (value_of_pattern_at f e) (explained fl l into b start c.args.window s items found c.requires.order c.requires.erased may e sums are) (found_values fl l into c.args.window s found e pattern are)))
    c.listed.ensures.found

pub returns-clause-in_place : goal.returns-clause-in_place
returns-clause-in_place g c = λ few. c.listed.ensures.in_place (omega (arith, few, c.in_ok-list.ensures.size))
