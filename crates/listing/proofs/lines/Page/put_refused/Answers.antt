-- `listing::lines::Page::put_refused` meets its contract: the word, two fields and the end of the line. Assumes nothing.
use Rattle.listing.specs.Numeral.{digits_of, decimal}
use Rattle.listing.specs.Lines.{fields, refused_word, refused_line}
use Rattle.listing.proofs.LineLaws.{room_first, room_rest, wrote_then, field_first, field_space, field_second, field_end, fields_wrote}
use Rattle.std.proofs.Common.{rules}
use Rattle.listing.proofs.lines.Page.put_refused.Goals as goal

pub put_text-requires : goal.put_text-requires
unfolding refused_line refused_word decimal
put_text-requires c = room_first _ (fields (digits_of c.args.number) (digits_of c.args.place)) c.requires

pub put_digits-requires : goal.put_digits-requires
unfolding decimal refused_line refused_word
put_digits-requires c =
    let room = room_rest (fields (digits_of c.args.number) (digits_of c.args.place)) c.put_text.ensures.wrote c.requires in
    rw c.from.ensures (field_first (digits_of c.args.number) (digits_of c.args.place) room)

pub put-requires : goal.put-requires
unfolding decimal refused_line refused_word
put-requires c =
    let room = room_rest (fields (digits_of c.args.number) (digits_of c.args.place)) c.put_text.ensures.wrote c.requires in
    field_space (digits_of c.args.number) (digits_of c.args.place) room (rw c.from.ensures at c.put_digits.ensures.wrote)

pub put_digits-requires-2 : goal.put_digits-requires-2
unfolding decimal refused_line refused_word
put_digits-requires-2 c =
    let room = room_rest (fields (digits_of c.args.number) (digits_of c.args.place)) c.put_text.ensures.wrote c.requires in
    field_second (digits_of c.args.number) (digits_of c.args.place) room (rw c.from.ensures at c.put_digits.ensures.wrote)
    c.put.ensures.wrote

pub put-requires-2 : goal.put-requires-2
unfolding decimal refused_line refused_word
put-requires-2 c =
    let room = room_rest (fields (digits_of c.args.number) (digits_of c.args.place)) c.put_text.ensures.wrote c.requires in
    field_end (digits_of c.args.number) (digits_of c.args.place) room (rw c.from.ensures at c.put_digits.ensures.wrote) c.put.ensures.wrote
    c.put_digits-2.ensures.wrote

pub returns : goal.returns
unfolding decimal refused_line refused_word
returns c =
    let room = room_rest (fields (digits_of c.args.number) (digits_of c.args.place)) c.put_text.ensures.wrote c.requires in
    record {
      page = search rules;
      wrote = wrote_then c.put_text.ensures.wrote
          (fields_wrote (digits_of c.args.number) (digits_of c.args.place) room (rw c.from.ensures at c.put_digits.ensures.wrote)
          c.put.ensures.wrote
          c.put_digits-2.ensures.wrote c.put-2.ensures.wrote);
    }
