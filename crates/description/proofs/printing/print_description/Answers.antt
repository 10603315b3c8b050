use Rattle.std.proofs.Common.{ap, ◌∙◌}
use Rattle.description.specs.Describing.{described}
use Rattle.description.specs.Printing.{head_lines, table_lines, places_line, below_lines}
use Rattle.description.specs.Reading.{reading}
use Rattle.description.proofs.Back.{reads_back}
use Rattle.description.proofs.Printed.{parts_printed}
use Rattle.description.proofs.printing.print_description.Goals as goal

-- the text is its parts, one behind the other
pub returns-clause-text : goal.returns-clause-text
returns-clause-text c =
    let d = described c.args.description.now in
    parts_printed (head_lines d) (table_lines d.checks) (places_line d.place_count) (below_lines d.under) c.new-text.result.items c.push_head.new.text.items c.push_table.new.text.items c.push_places.new.text.items c.push_below.new.text.items c.new-text.ensures.items c.in_ok-push_head.ensures.printed c.in_ok-push_table.ensures.printed c.in_ok-push_places.ensures.printed c.in_ok-push_below.ensures

-- so it is read as what was printed
pub returns-clause-read_back : goal.returns-clause-read_back
returns-clause-read_back c = λ h. ap reading (returns-clause-text c) ∙ reads_back (described c.args.description.now) h record { data_bays = c.in_ok-push_head.ensures.small.0; check_bays = c.in_ok-push_head.ensures.small.1; places = c.in_ok-push_places.ensures.small; codes = c.in_ok-push_table.ensures.small }
