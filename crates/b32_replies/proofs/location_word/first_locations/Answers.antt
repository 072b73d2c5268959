use Rattle.std.proofs.Common.{rules, ◌∙◌, [], Some, None, refl, sym, arith}
use Rattle.std.proofs.lemmas.List.{take_all}
use Rattle.b32_replies.specs.Locations.{pieces}
use Rattle.b32_replies.proofs.LocationLists.{few_size, no_list, pieces-split_once, read_all, read_on}
use Rattle.b32_replies.proofs.location_word.first_locations.Goals as goal

pub pieces-init : goal.pieces-init
pieces-init c = record {
  text = search rules;
  read = record { given = []; pieces_are = refl; below = tt; few_are = c.new-few.ensures ∙ sym (take_all c.args.kept [] (omega arith)) };
}

pub returns-in_default-location_of_word : goal.returns-in_default-location_of_word
returns-in_default-location_of_word c =
    let cut = pieces-split_once c.pieces.rest.now (Some (c.in-Some.piece, c.in-Some.others)) c.in-Some.ensures.cases in (
      refl,
      no_list c.args.kept c.args.word.now c.pieces.rest.now c.pieces.few c.in-Some.piece.now (pieces c.in-Some.others.now) c.pieces.invariant.read cut
          (λ n small e. c.in_default-location_of_word.ensures n small (c.as_bytes.ensures.value ∙ e)),
    )

pub add_location-requires : goal.add_location-requires
add_location-requires c = record {
  size = few_size c.args.kept c.args.word.now c.pieces.rest.now c.pieces.few c.pieces.invariant.read;
  in_place = c.requires;
}

pub pieces-preserved : goal.pieces-preserved
pieces-preserved c =
    let cut = pieces-split_once c.pieces.rest.now (Some (c.in-Some.piece, c.in-Some.others)) c.in-Some.ensures.cases in
    let found = c.in-Some-location_of_word.ensures in
    record {
      text = search rules;
      read = read_on c.args.kept c.args.word.now c.pieces.rest.now c.pieces.few c.add_location.new.few c.in-Some.piece.now c.in-Some.others.now c.in-Some-location_of_word.location
          c.pieces.invariant.read cut (sym c.as_bytes.ensures.value ∙ found.1) found.0 c.add_location.ensures;
    }

pub returns-in_default-location_of_word-2 : goal.returns-in_default-location_of_word-2
returns-in_default-location_of_word-2 c =
    let cut = pieces-split_once c.pieces.rest.now None c.in_default.ensures.cases in (
      refl,
      no_list c.args.kept c.args.word.now c.pieces.rest.now c.pieces.few c.pieces.rest.now [] c.pieces.invariant.read cut
          (λ n small e. c.in_default-location_of_word-2.ensures n small (c.as_bytes-2.ensures.value ∙ e)),
    )

pub add_location-requires-2 : goal.add_location-requires-2
add_location-requires-2 c = record {
  size = few_size c.args.kept c.args.word.now c.pieces.rest.now c.pieces.few c.pieces.invariant.read;
  in_place = c.requires;
}

pub returns : goal.returns
returns c =
    let cut = pieces-split_once c.pieces.rest.now None c.in_default.ensures.cases in
    let found = c.in-Some-location_of_word-2.ensures in
    read_all c.args.kept c.args.word.now c.pieces.rest.now c.pieces.few c.add_location-2.new.few c.in-Some-location_of_word-2.location c.pieces.invariant.read cut
    (sym c.as_bytes-2.ensures.value ∙ found.1) found.0 c.add_location-2.ensures
