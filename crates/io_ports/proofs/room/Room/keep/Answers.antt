use Rattle.std.proofs.Common.{rules, ◌≡◌, ◌≤◌, ◌-◌, ◌++◌, ◌∙◌, min, length, take, ap}
use Rattle.io_ports.specs.Kept.{Kept, kept_with}
use Rattle.io_ports.proofs.KeptLemmas.{keeps_what_fits}
use Rattle.io_ports.proofs.room.Room.keep.Goals as goal

pub returns-clause-kept : goal.returns-clause-kept
returns-clause-kept c =
    let inside : length c.self.inside.bytes.items ≤ c.self.inside.room = search rules in
    let grew : c.extend_from_slice.new.self.items ≡ c.self.inside.bytes.items ++ take (min (c.self.inside.room - length c.self.inside.bytes.items) (length c.args.bytes.now)) c.args.bytes.now = search rules in
    let held : c.len.result ≡ length c.self.inside.bytes.items = search rules in
    rw held (keeps_what_fits c.self.inside.room c.self.inside.is_over c.self.inside.bytes.items c.args.bytes.now c.extend_from_slice.new.self.items inside grew
    ∙ ap (λ (k : Kept). kept_with k c.args.bytes.now) c.self.view_is)
