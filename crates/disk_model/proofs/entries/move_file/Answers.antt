use Rattle.std.proofs.Common.{◌∙◌, ap, sym}
use Rattle.disk_model.specs.Entries.{entries_of, moved_to}
use Rattle.disk_model.proofs.ActLemmas.{none_taken}
use Rattle.disk_model.proofs.entries.move_file.Goals as goal

pub returns-in-None : goal.returns-in-None
returns-in-None c =
    let es = entries_of c.args.files.now.items in
    let none = c.in-None.ensures.bytes in
    c.take_file.ensures.taken ∙ none_taken c.args.from.now es none ∙ sym (ap (λ f. moved_to f c.args.from.now c.args.to es) none)
