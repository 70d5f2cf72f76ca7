use Rattle.std.proofs.Common.{◌≡◌, ◌∙◌, length, sym}
use Rattle.std.specs.Prelude.{None}
use Rattle.store_core.specs.Entries.{entries_in}
use Rattle.store_core.specs.Edit.{edited, limit_among, limit_in}
use Rattle.store_core.proofs.LimitLemmas.{foreseen_limit, none_within, ok_is}
use Rattle.store_core.proofs.store.Store.limit_of.Goals as goal

pub returns-clause-limit : goal.returns-clause-limit
returns-clause-limit g c told opens start s =
    let self = c.args.self.now in
    let files = (g.D.Disk.meaning.view self.vault.disk).files in
    c.limit_among.ensures ∙ ((λ i. limit_among (length (c.deref.ensures.value i)) (length (c.deref-2.ensures.value i)) (c.deref-3.ensures.value i))
    ∙ foreseen_limit opens self.vault.root files self.found start (self.agrees c.requires.free told) s c.are_table.ensures (entries_in c.args.edit.now) c.in_ok-next.next c.requires.few c.in_ok-next.ensures)

pub returns-clause-within : goal.returns-clause-within
returns-clause-within g c none told opens start s =
    let self = c.args.self.now in
    let files = (g.D.Disk.meaning.view self.vault.disk).files in
    let limit : c.limit_among.result ≡ limit_in (edited opens (entries_in c.args.edit.now) start) = c.limit_among.ensures ∙ ((λ i. limit_among (length (c.deref.ensures.value i)) (length (c.deref-2.ensures.value i)) (c.deref-3.ensures.value i))
    ∙ foreseen_limit opens self.vault.root files self.found start (self.agrees c.requires.free told) s c.are_table.ensures (entries_in c.args.edit.now) c.in_ok-next.next c.requires.few c.in_ok-next.ensures) in
    none_within (edited opens (entries_in c.args.edit.now) start) (sym limit ∙ ok_is c.limit_among.result None none)
