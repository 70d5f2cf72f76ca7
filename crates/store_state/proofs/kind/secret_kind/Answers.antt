use Rattle.std.proofs.Common.{◌≡◌, ◌++◌, inl, ap, sym, ◌∙◌, subst}
use Rattle.std.specs.Prelude.{codes, Option, MatchOption}
use Rattle.std.proofs.lemmas.Bool.{true≢false}
use Rattle.gopass_base.specs.Text.{Text}
use Rattle.mount_table.specs.Names.{IsName}
use Rattle.mount_table.specs.Mounts.{row_at}
use Rattle.store_state.specs.Places.{in_folder}
use Rattle.store_state.proofs.KindLemmas.{alias_at}
use Rattle.store_state.proofs.kind.secret_kind.Goals as goal

pub returns-else-is_mount_of : goal.returns-else-is_mount_of
returns-else-is_mount_of c =
    let stem = c.in-Some.stem.now in
    let name = c.in-Some-2.name in
    let (at, found, is, long) = c.in-Some.ensures.cases in
    let whole : c.args.rest.now ≡ stem ++ codes ".gpg" = found.1 ∙ ap (λ t. t ++ codes ".gpg") (sym is) in
    let was = subst (λ (o : Option Text). MatchOption o (¬ IsName (in_folder c.text.result.now stem)) (λ name. (name ≡ in_folder c.text.result.now stem) × IsName name)) c.in-Some-2.is c.in_ok-name-in-Some.ensures in
    let alias : c.text.result.now ≡ (row_at c.args.mounts.now c.args.row).alias = alias_at c.text.result.now c.rows-rows.result.now c.args.mounts.now c.args.row c.index-rows-row.result c.text.ensures.text c.rows-rows.ensures.rows c.requires.inside in
    inl (
      name,
      record { stem = stem; file = whole; named = was.0 ∙ ap (λ a. in_folder a stem) alias; good = was.1 },
      λ h. true≢false (sym (c.is_mount_of.ensures.1 h) ∙ c.if-is_mount_of.false),
    )
