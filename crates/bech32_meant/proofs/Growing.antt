-- What is found stays found, and all that is wanted is found.
use Rattle.std.proofs.Common.{◌≡◌, ◌≤◌, ◌∙◌, ◌+◌, ℕ, List, [], ◌∷◌, ◌++◌, ap, arith, inl, inr, length, map, refl, subst, sym}
use Rattle.std.specs.Char.{to_ascii_lowercase}
use Rattle.std.proofs.lemmas.List.{length-append, length-map, map-append}
use Rattle.bech32_poly.specs.Distinct.{IsAmong}
use Rattle.bech32_bch.proofs.Places.{mem_left, mem_right}
use Rattle.bech32_hrp.specs.Hrp.{lowered}
use Rattle.bech32_checksum.specs.Code.{Code, bech32, bech32m}
use Rattle.bech32_near.specs.NearTexts.{IsNearText}
use Rattle.bech32_suggest.specs.Suggestions.{near_bound}
use Rattle.bech32_suggest.specs.Typed.{as_read, unread_locations}
use Rattle.bech32_meant.specs.Added.{AddsAll, AddsByBoth, AddsFrame, AddsIf, AddsNearby, AddsTry, Answer, HasChecksum, IsFound, IsNearByEither, IsNearFrame, IsNearTry, IsInUseUnder, filled, front_for}
use Rattle.bech32_typed.specs.Tries.{Try}

-- nothing that is found gets lost
abbrev pub Grows : {X : Type 0} → (List Answer → X → List Answer → Type 0) → Type 0
Grows {X} Adds = (before after : List Answer) (x : X) (t : List ℕ) → Adds before x after → IsFound before t → IsFound after t

pub grows-all : {X : Type 0} (Adds : List Answer → X → List Answer → Type 0) → Grows Adds → (before after : List Answer) (xs : List X) (t : List ℕ) → AddsAll Adds before xs after → IsFound before t → IsFound after t
grows-all Adds grows before after [] t same m = subst (λ (l : List Answer). IsFound l t) (sym same) m
grows-all Adds grows before after (x ∷ xs) t h m = grows-all Adds grows h.0 after xs t h.2 (grows before h.0 x t h.1 m)

more : (before : List Answer) (a : Answer) (t : List ℕ) → IsFound before t → IsFound (before ++ a ∷ []) t
more before a t m = subst (λ (l : List (List ℕ)). IsAmong t l) (sym (map-append (λ (b : Answer). b.0) before (a ∷ []))) (mem_left t (map (λ (b : Answer). b.0) before) (a.0 ∷ []) m)

last : (before : List Answer) (a : Answer) → IsFound (before ++ a ∷ []) a.0
last before a = subst (λ (l : List (List ℕ)). IsAmong a.0 l) (sym (map-append (λ (b : Answer). b.0) before (a ∷ []))) (mem_right a.0 (map (λ (b : Answer). b.0) before) (a.0 ∷ []) (inl refl))

module _ (P : List ℕ → Type 0) (slips : ℕ) where
  pub grows-if : Grows (AddsIf P slips)
  grows-if before after x t (inl (new, is)) m = subst (λ (l : List Answer). IsFound l t) (sym is) (more before (x, slips) t m)
  grows-if before after x t (inr (old, is)) m = subst (λ (l : List Answer). IsFound l t) (sym is) m

  -- what has the property is found
  pub finds-if : (before after : List Answer) (x : List ℕ) → AddsIf P slips before x after → P x → IsFound after x
  finds-if before after x (inl (new, is)) p = subst (λ (l : List Answer). IsFound l x) (sym is) (last before (x, slips))
  finds-if before after x (inr (inl fails, is)) p = absurd (fails p)
  finds-if before after x (inr (inr found, is)) p = subst (λ (l : List Answer). IsFound l x) (sym is) found

-- each that is added finds what it finds
pub finds-all : {X : Type 0} (Adds : List Answer → X → List Answer → Type 0) → Grows Adds → (before after : List Answer) (xs : List X) (x : X) (t : List ℕ)
    → ((b a : List Answer) → Adds b x a → IsFound a t) → IsAmong x xs → AddsAll Adds before xs after → IsFound after t
finds-all Adds grows before after [] x t finds m h = absurd m
finds-all Adds grows before after (y ∷ ys) x t finds (inl same) h = grows-all Adds grows h.0 after ys t h.2 (finds before h.0 (subst (λ z. Adds before z h.0) (sym same) h.1))
finds-all Adds grows before after (y ∷ ys) x t finds (inr m) h = finds-all Adds grows h.0 after ys x t finds m h.2

-- ---- the texts near a frame

module _ (hrp : List ℕ) (slips errors : ℕ) where
  grows-near : (code : Code) (text given : List ℕ) (before after : List Answer) (t : List ℕ) → AddsNearby code hrp slips errors text given before after → IsFound before t → IsFound after t
  grows-near code text given before after t h m = grows-all (AddsIf (IsInUseUnder hrp) slips) (grows-if (IsInUseUnder hrp) slips) before after (map (λ n. n.1) h.near) t h.adds m

  finds-near : (code : Code) (text given : List ℕ) (before after : List Answer) (other : List ℕ) → AddsNearby code hrp slips errors text given before after
      → IsNearText code near_bound text given errors other → IsInUseUnder hrp (lowered other) → IsFound after (lowered other)
  finds-near code text given before after other h near wanted =
      finds-all (AddsIf (IsInUseUnder hrp) slips) (grows-if (IsInUseUnder hrp) slips) before after (map (λ n. n.1) h.near) (lowered other) (lowered other)
      (λ b a adds. finds-if (IsInUseUnder hrp) slips b a (lowered other) adds wanted) (h.are.all other near) h.adds

  finds-both : (text given : List ℕ) (before after : List Answer) (other : List ℕ) → AddsByBoth hrp slips errors text given before after
      → IsNearByEither text given errors other → IsInUseUnder hrp (lowered other) → IsFound after (lowered other)
  finds-both text given before after other h (inl near) wanted = grows-near bech32m text given h.0 after (lowered other) h.2 (finds-near bech32 text given before h.0 other h.1 near wanted)
  finds-both text given before after other h (inr near) wanted = finds-near bech32m text given h.0 after other h.2 near wanted

-- a text near which there is one has a checksum
near-checksum : (code : Code) → code.code_length ≤ 1023 → 6 ≤ length code.generator → (text given : List ℕ) (errors : ℕ) (other : List ℕ)
    → IsNearText code near_bound text given errors other → HasChecksum text
near-checksum code short long text given errors other near =
    let whole : length other ≡ length near.other_hrp + length (49 ∷ near.other_data) = ap length near.accepted.grammar.split ∙ length-append near.other_hrp (49 ∷ near.other_data) in
    let own : length text ≡ length near.hrp + length (49 ∷ near.data_part) = ap length near.grammar.split ∙ length-append near.hrp (49 ∷ near.data_part) in
    let parts : length near.other_hrp ≡ length near.hrp = sym (length-map near.other_hrp to_ascii_lowercase) ∙ ap length near.same_hrp ∙ length-map near.hrp to_ascii_lowercase in
    record {
      short = omega (arith, near.accepted.text_length, near.same_length, short);
      hrp = near.hrp;
      data_part = near.data_part;
      grammar = near.grammar;
      checked = omega (arith, near.accepted.data_length, near.same_length, whole, own, parts, long);
    }

has-checksum : (text given : List ℕ) (errors : ℕ) (other : List ℕ) → IsNearByEither text given errors other → HasChecksum text
has-checksum text given errors other (inl near) = near-checksum bech32 (omega arith) (omega arith) text given errors other near
has-checksum text given errors other (inr near) = near-checksum bech32m (omega arith) (omega arith) text given errors other near

module _ (hrp : List ℕ) (slips : ℕ) where
  pub grows-frame : (errors : ℕ) → Grows (AddsFrame hrp slips errors)
  grows-frame errors before after frame t (inl (has, h)) m =
      grows-near hrp slips errors bech32m (front_for hrp ++ as_read frame) (unread_locations frame) h.0 after t h.2
      (grows-near hrp slips errors bech32 (front_for hrp ++ as_read frame) (unread_locations frame) before h.0 t h.1 m)
  grows-frame errors before after frame t (inr (none, same)) m = subst (λ (l : List Answer). IsFound l t) (sym same) m

  finds-frame : (errors : ℕ) (before after : List Answer) (frame other : List ℕ) → AddsFrame hrp slips errors before frame after
      → IsNearFrame hrp frame errors other → IsInUseUnder hrp (lowered other) → IsFound after (lowered other)
  finds-frame errors before after frame other (inl (has, h)) near wanted =
      finds-both hrp slips errors (front_for hrp ++ as_read frame) (unread_locations frame) before after other h near wanted
  finds-frame errors before after frame other (inr (none, same)) near wanted = absurd (none (has-checksum (front_for hrp ++ as_read frame) (unread_locations frame) errors other near))

  pub grows-try : Grows (AddsTry hrp slips)
  grows-try before after t text h m = grows-all (AddsFrame hrp slips t.errors) (grows-frame t.errors) before after (filled t.frame) text h m

  -- an address near a frame of a try is found
  pub finds-try : (before after : List Answer) (t : Try) (other : List ℕ) → AddsTry hrp slips before t after → IsNearTry hrp t other → IsInUseUnder hrp (lowered other) → IsFound after (lowered other)
  finds-try before after t other h near wanted =
      finds-all (AddsFrame hrp slips t.errors) (grows-frame t.errors) before after (filled t.frame) near.0 (lowered other)
      (λ b a adds. finds-frame t.errors b a near.0 other adds near.2 wanted) near.1 h
