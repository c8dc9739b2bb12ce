use Rattle.rules.specs.Meaning.{list_of}
use Rattle.sheet_writer.proofs.Parts.{first_and_rest}
use Rattle.sheet_writer.proofs.lists.put_list.Goals as goal

pub returns : goal.returns
returns g c =
    let list = list_of (g.R.Roll.entries c.args.roll.now) c.args.t.0 in
    first_and_rest c.args.out.now c.list_length.result list c.put_choices.new.out c.list_length.ensures c.requires c.put_choices.ensures
