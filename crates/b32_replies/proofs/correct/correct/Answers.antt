use Rattle.std.proofs.Common.{◌≡◌, ℕ, List, [], ◌∷◌, ◌++◌, length, length-append, ap, ◌∙◌, arith, codes, refl, subst}
use Rattle.bech32_gf.specs.Fe32.{elements_of}
use Rattle.bech32_gf.specs.declared.gf32.Fe32.{Fe32}
use Rattle.bech32_hrp.specs.Hrp.{lowered}
use Rattle.bech32_checksum.specs.Roots.{singleton_bound}
use Rattle.bech32_checksum.specs.Code.{Code}
use Rattle.bech32_decode.specs.Acceptance.{Accepts}
use Rattle.bech32_correction.specs.declared.correcting.Correction.{Correction}
use Rattle.bech32_correction.specs.Mistyped.{HasNoListing, IsListedInPlace, IsListingOf}
use Rattle.bech32_correction.proofs.Texts.{ends-lowered, mendable-from_listing}
use Rattle.b32_replies.specs.Request.{code_of_name}
use Rattle.b32_replies.specs.Reply.{listed}
use Rattle.line_program.proofs.Pieces.{three-pieces}
use Rattle.b32_replies.proofs.CorrectReplies.{listing-size, locations-small, mended-size, new_text, says-fine, says-mended, says-none, says-refused, short-code, text-size}
use Rattle.b32_replies.proofs.correct.correct.Goals as goal

-- what is said of an answer, by its variant
of_variant : (code : Code) (text given : List ℕ) (answer variant : Correction (List (ℕ × Fe32)) (Unit {0})) → answer ≡ variant → IsListedInPlace code (singleton_bound 24 26) text given answer
    → IsListedInPlace code (singleton_bound 24 26) text given variant
of_variant code text given answer variant e h = subst (λ (x : Correction (List (ℕ × Fe32)) (Unit {0})). IsListedInPlace code (singleton_bound 24 26) text given x) e h

pub returns-in-Err-clause-answer : goal.returns-in-Err-clause-answer
returns-in-Err-clause-answer c = (says-refused (code_of_name c.args.checksum) c.args.text.now c.args.given.now c.in-Err.e c.in-Err.ensures, refl)

pub returns-in-Accepted-clause-answer : goal.returns-in-Accepted-clause-answer
returns-in-Accepted-clause-answer c =
    let code = code_of_name c.args.checksum in
    let text = c.args.text.now in
    let is : Accepts code text = of_variant code text c.args.given.now _ _ c.in-Accepted.is c.in-Ok.ensures in
    record {
      said = codes "fine";
      says = says-fine code text c.args.given.now is;
      size = omega arith;
      added = c.append.ensures.items;
    }

pub returns-in-Unexplained-clause-answer : goal.returns-in-Unexplained-clause-answer
returns-in-Unexplained-clause-answer c =
    let code = code_of_name c.args.checksum in
    let text = c.args.text.now in
    let none : HasNoListing code (singleton_bound 24 26) text c.args.given.now = (of_variant code text c.args.given.now _ _ c.in-Unexplained.is c.in-Ok.ensures).0 in
    record {
      said = codes "none";
      says = says-none code text c.args.given.now none;
      size = omega arith;
      added = c.append-in-Unexplained.ensures.items;
    }

pub append_listing-requires-clause-small : goal.append_listing-requires-clause-small
append_listing-requires-clause-small c =
    let code = code_of_name c.args.checksum in
    let text = c.args.text.now in
    let listing = c.in-Mended.listing in
    let is : IsListingOf code (singleton_bound 24 26) text c.args.given.now listing = of_variant code text c.args.given.now _ _ c.in-Mended.is c.in-Ok.ensures in
    let m = mendable-from_listing code (singleton_bound 24 26) text c.args.given.now listing is in
    rw c.as_slice.ensures (locations-small code text listing m (text-size code text c.args.given.now listing (short-code c.args.checksum) is))

pub append_listing-requires-clause-room : goal.append_listing-requires-clause-room
append_listing-requires-clause-room c =
    let code = code_of_name c.args.checksum in
    let text = c.args.text.now in
    let listing = c.in-Mended.listing in
    let is : IsListingOf code (singleton_bound 24 26) text c.args.given.now listing = of_variant code text c.args.given.now _ _ c.in-Mended.is c.in-Ok.ensures in
    let few = listing-size code text c.args.given.now listing is in
    omega (
      arith,
      few,
      ap length c.as_slice.ensures,
      ap length c.append-in-Mended.ensures.items,
      length-append c.args.out.now.items (codes "ok "),
      c.append-in-Mended.ensures.capacity,
      c.requires,
      c.append-in-Mended.new.out.ok.0,
      c.args.out.now.ok.0,
    )

pub append_mended-requires-clause-room : goal.append_mended-requires-clause-room
append_mended-requires-clause-room c =
    let code = code_of_name c.args.checksum in
    let text = c.args.text.now in
    let listing = c.in-Mended.listing in
    let is : IsListingOf code (singleton_bound 24 26) text c.args.given.now listing = of_variant code text c.args.given.now _ _ c.in-Mended.is c.in-Ok.ensures in
    let few = listing-size code text c.args.given.now listing is in
    let short = text-size code text c.args.given.now listing (short-code c.args.checksum) is in
    omega (
      arith,
      few,
      short,
      ap length c.as_slice.ensures,
      ap length c.append-in-Mended.ensures.items,
      length-append c.args.out.now.items (codes "ok "),
      c.append_listing.ensures.size,
      c.append_listing.ensures.capacity,
      c.append-in-Mended.ensures.capacity,
      c.requires,
      c.append-in-Mended.new.out.ok.0,
      c.append_listing.new.out.ok.0,
      c.args.out.now.ok.0,
    )

pub append_mended-requires-clause-inside : goal.append_mended-requires-clause-inside
append_mended-requires-clause-inside c =
    let code = code_of_name c.args.checksum in
    let text = c.args.text.now in
    let listing = c.in-Mended.listing in
    let is : IsListingOf code (singleton_bound 24 26) text c.args.given.now listing = of_variant code text c.args.given.now _ _ c.in-Mended.is c.in-Ok.ensures in
    let m = mendable-from_listing code (singleton_bound 24 26) text c.args.given.now listing is in
    rw c.as_slice-in-Mended.ensures (lowered m.hrp ++ (49 ∷ []), (elements_of m.data_part, ends-lowered text m.hrp m.data_part m.grammar, m.inside))

pub returns-in-Mended-clause-answer : goal.returns-in-Mended-clause-answer
returns-in-Mended-clause-answer c =
    let code = code_of_name c.args.checksum in
    let text = c.args.text.now in
    let listing = c.in-Mended.listing in
    let is : IsListingOf code (singleton_bound 24 26) text c.args.given.now listing = of_variant code text c.args.given.now _ _ c.in-Mended.is c.in-Ok.ensures in
    let m = mendable-from_listing code (singleton_bound 24 26) text c.args.given.now listing is in
    let few = listing-size code text c.args.given.now listing is in
    let short = mended-size code text listing m (short-code c.args.checksum) in
    let mended = new_text m.hrp m.data_part listing in
    let listing_is = c.append_listing.ensures.items ∙ ap (λ (l : List (ℕ × Fe32)). c.append-in-Mended.new.out.items ++ listed l) c.as_slice.ensures in
    let mended_is = rw c.as_slice-in-Mended.ensures at c.append_mended.ensures.items (lowered m.hrp ++ (49 ∷ [])) (elements_of m.data_part) (ends-lowered text m.hrp m.data_part m.grammar) in
    record {
      said = codes "ok " ++ (listed listing ++ mended);
      says = says-mended code text c.args.given.now listing m is;
      size = omega (
        arith,
        few,
        short,
        length-append (codes "ok ") (listed listing ++ mended),
        length-append (listed listing) mended,
        ap length c.as_slice.ensures,
        ap length listing_is,
        length-append c.append-in-Mended.new.out.items (listed listing),
        c.append_listing.ensures.size,
        c.append-in-Mended.new.out.ok.0,
        c.append_listing.new.out.ok.0,
      );
      added = three-pieces c.args.out.now.items (codes "ok ") (listed listing) mended _ _ _ c.append-in-Mended.ensures.items listing_is (mended_is m.inside);
    }
