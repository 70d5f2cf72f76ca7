use Rattle.std.proofs.Common.{◌≡◌, subst, sym, drop, IsUtf8}
use Rattle.gopass_base.specs.Text.{Text}
use Rattle.mount_table.specs.Names.{IsName}
use Rattle.mount_table.specs.Prefixes.{rest_start}
use Rattle.mount_table.proofs.RestLemmas.{CanCut, can_cut, rest_name}
use Rattle.mount_table.proofs.name.Name.below.Goals as goal

pub range_from-requires : goal.range_from-requires
range_from-requires c =
    let start : c.start_below.result ≡ rest_start c.args.folder.now c.args.self.now = c.start_below.ensures c.args.self.now c.requires in
    let cut : CanCut c.text.result.now c.start_below.result =
    subst (λ (t : Text). CanCut t c.start_below.result) (sym c.text.ensures.text)
    (subst (CanCut c.args.self.now) (sym start) (can_cut c.args.folder.now c.args.self.now (subst IsUtf8 c.text.ensures.text c.text.utf8) c.requires)) in
    λ _. cut.boundary

pub invariant_of-result : goal.invariant_of-result
invariant_of-result c =
    let start : c.start_below.result ≡ rest_start c.args.folder.now c.args.self.now = c.start_below.ensures c.args.self.now c.requires in
    rw c.in_ok-of.ensures
    (rw c.range_from.ensures.value
    (subst IsName (sym ((λ i. drop (start i) (c.text.ensures.text i))))
    (rest_name c.args.folder.now c.args.self.now c.text.ensures.good c.requires)))
