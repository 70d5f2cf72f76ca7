use Rattle.std.proofs.Common.{◌≡◌, ap, sym, ◌∙◌, subst, drop, IsUtf8}
use Rattle.gopass_base.specs.Text.{Text}
use Rattle.gopass_base.specs.Parts.{parts}
use Rattle.mount_table.specs.Prefixes.{rest_start}
use Rattle.mount_table.proofs.RestLemmas.{CanCut, can_cut}
use Rattle.listing_texts.proofs.TreeLemmas.{rest_parts}
use Rattle.listing_texts.proofs.tree.rest_below.Goals as goal

pub range_from-requires : goal.range_from-requires
range_from-requires c =
    let start : c.start_below.result ≡ rest_start c.args.folder.now c.args.name.now = c.start_below.ensures c.args.name.now c.requires in
    let cut : CanCut c.text.result.now c.start_below.result =
    subst (λ (t : Text). CanCut t c.start_below.result) (sym c.text.ensures.text)
    (subst (CanCut c.args.name.now) (sym start) (can_cut c.args.folder.now c.args.name.now (subst IsUtf8 c.text.ensures.text c.text.utf8) c.requires)) in
    λ _. cut.boundary

pub returns : goal.returns
returns c =
    let start : c.start_below.result ≡ rest_start c.args.folder.now c.args.name.now = c.start_below.ensures c.args.name.now c.requires in
    let rest : c.range_from.result.now ≡ drop (rest_start c.args.folder.now c.args.name.now) c.args.name.now = c.range_from.ensures.value ∙ (λ i. drop (start i) (c.text.ensures.text i)) in
    ap parts rest ∙ rest_parts c.args.folder.now c.args.name.now c.requires
