use Rattle.std.proofs.lemmas.List.{append-nil}
use Rattle.std.proofs.Common.{◌++◌, [], ◌≡◌, ◌+◌, ◌*◌, ◌≤◌, ◌∷◌, ℕ, suc, List, length, take, subst, sym, arith}
use Rattle.codex32.specs.Derive.{IsDerivedString, size_of}
use Rattle.codex32.specs.Share.{AreSharesOf, IsShareOf}
use Rattle.codex32.specs.Split.{first_texts, split_index, text_at}
use Rattle.codex32.specs.declared.share.Share.{Share}
use Rattle.codex32.proofs.SplitBase.{size-first_text}
use Rattle.codex32.proofs.dealing.put_given.Goals as goal

-- the share of the secret's own string before those of the texts
with-own : (own : List ℕ) (ts : List (List ℕ)) (s : Share) (room : List Share) (n : ℕ) → IsShareOf own s → AreSharesOf ts (take n room)
    → AreSharesOf (own ∷ ts) (take (n + 1) (s ∷ (room ++ [])))
with-own own ts s room n is are =
    let e : suc n ≡ n + 1 = omega arith in
    subst (λ (k : ℕ). AreSharesOf (own ∷ ts) (take k (s ∷ (room ++ [])))) e
    (is, subst (λ (ss : List Share). AreSharesOf ts (take n ss)) (sym (append-nil room)) are)

pub share_of-room-requires : goal.share_of-room-requires
share_of-room-requires c = c.requires.base.own_is

pub put_shares-requires-clause-texts : goal.put_shares-requires-clause-texts
put_shares-requires-clause-texts c = c.requires.base.texts_are

pub put_all_derived-requires-clause-whole : goal.put_all_derived-requires-clause-whole
put_all_derived-requires-clause-whole c = λ x.
    let own = c.args.own.now in
    let ts : List (List ℕ) = own ∷ first_texts (length own) c.args.first.now c.args.drawn in
    let base : List Share = take (c.args.drawn + 1) (c.share_of-room.result ∷ (c.put_shares.new.room ++ [])) in
    c.requires.base.whole base x (with-own own (first_texts (length own) c.args.first.now c.args.drawn) c.share_of-room.result c.put_shares.new.room c.args.drawn c.share_of-room.ensures c.put_shares.ensures.shares)

pub put_all_derived-requires-clause-agree : goal.put_all_derived-requires-clause-agree
put_all_derived-requires-clause-agree c =
    let own = c.args.own.now in
    let ts : List (List ℕ) = own ∷ first_texts (length own) c.args.first.now c.args.drawn in
    let base : List Share = take (c.args.drawn + 1) (c.share_of-room.result ∷ (c.put_shares.new.room ++ [])) in
    c.requires.base.agree base (with-own own (first_texts (length own) c.args.first.now c.args.drawn) c.share_of-room.result c.put_shares.new.room c.args.drawn c.share_of-room.ensures c.put_shares.ensures.shares)

pub put_all_derived-requires-clause-room : goal.put_all_derived-requires-clause-room
put_all_derived-requires-clause-room c =
    let own = c.args.own.now in
    let ts : List (List ℕ) = own ∷ first_texts (length own) c.args.first.now c.args.drawn in
    let base : List Share = take (c.args.drawn + 1) (c.share_of-room.result ∷ (c.put_shares.new.room ++ [])) in
    let are : AreSharesOf ts base = with-own own (first_texts (length own) c.args.first.now c.args.drawn) c.share_of-room.result c.put_shares.new.room c.args.drawn c.share_of-room.ensures c.put_shares.ensures.shares in
    let size : 3 + size_of base ≡ length own = size-first_text own (first_texts (length own) c.args.first.now c.args.drawn) base are in
    subst (λ (k : ℕ). c.args.count * k ≤ length c.args.rest.now) (sym size) c.requires.size

pub returns : goal.returns
returns c =
    let own = c.args.own.now in
    let ts : List (List ℕ) = own ∷ first_texts (length own) c.args.first.now c.args.drawn in
    let base : List Share = take (c.args.drawn + 1) (c.share_of-room.result ∷ (c.put_shares.new.room ++ [])) in
    let are : AreSharesOf ts base = with-own own (first_texts (length own) c.args.first.now c.args.drawn) c.share_of-room.result c.put_shares.new.room c.args.drawn c.share_of-room.ensures c.put_shares.ensures.shares in
    let size : 3 + size_of base ≡ length own = size-first_text own (first_texts (length own) c.args.first.now c.args.drawn) base are in (
      base,
      are,
      λ j less. subst (λ (k : ℕ). IsDerivedString base (split_index (c.args.drawn + j)) (text_at k c.put_all_derived.new.texts j)) size (c.put_all_derived.ensures j less),
    )
