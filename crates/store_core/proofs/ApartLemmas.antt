-- A file of one kind changes nothing of what the other kinds give.
use Rattle.std.proofs.Common.{◌≡◌, ◌≢◌, ℕ, ◌<◌, List, ◌∷◌, length, Option, Some, ap, sym, ◌∙◌, subst}
use Rattle.std.proofs.lemmas.List.{append_cancel_left}
use Rattle.gopass_base.specs.Text.{Text}
use Rattle.mount_table.specs.Mounts.{row_at, IsTable}
use Rattle.mount_table.specs.declared.mounts.Row.{Row}
use Rattle.disk_model.specs.Files.{Files}
use Rattle.store_state.specs.declared.kind.Kind.{Kind}
use Rattle.store_state.specs.Found.{LiesAs}
use Rattle.store_state.specs.Places.{IsKind}
use Rattle.store_state.specs.Survey.{IsOfFiles}
use Rattle.store_state.specs.Tree.{tree_files}
use Rattle.store_state.proofs.NameLemmas.{one_dir}
use Rattle.store_state.proofs.OneKind.{one_kind}

module _ (root : Text) (files next : Files) (mounts : List Row) (place : Text) (k : ℕ) (kind : Kind) (table : IsTable root mounts) (inside : k < length mounts) (lies : LiesAs mounts k kind place)
    (apart : (path : Text) → place ≢ path → next path ≡ files path) where
  -- what lies there is of this kind alone
  only : (j : ℕ) (other : Kind) → j < length mounts → LiesAs mounts j other place → other ≡ kind
  only j other lt (rest, whole, is) =
      let same : k ≡ j = one_dir root mounts k j lies.0 rest table inside lt (sym lies.1 ∙ whole) in
      let (own, again, own_is) = subst (λ (n : ℕ). LiesAs mounts n kind place) same lies in
      let tails : 47 ∷ rest ≡ 47 ∷ own = append_cancel_left (row_at mounts j).dir (47 ∷ rest) (47 ∷ own) (sym whole ∙ again) in
      let rests : rest ≡ own = cc in
      one_kind mounts j own other kind (subst (λ (r : Text). IsKind mounts j r other) rests is) own_is

  tree_apart : (path : Text) → place ≢ path → tree_files root next path ≡ tree_files root files path
  tree_apart path off = ap (λ (file : Option Text). tree_files root (λ p. file) path) (apart path off)

  -- a list of what it does not give stays
  pub list_kept : (Gives : Kind → Text → Text → Type 0) (list : List Text) → ((x : Text) → ¬ Gives kind place x) → IsOfFiles Gives root files mounts (length mounts) list → IsOfFiles Gives root next mounts (length mounts) list
  list_kept Gives list none so_far x = (
    λ has. (let (j, path, other, lt, below, there, here, gives) = (so_far x).0 has in
        (j, path, other, lt, below, subst (λ (file : Option Text). (bytes : Text) × (file ≡ Some bytes)) (sym (tree_apart path (off j path other lt here gives))) there, here, gives)),
    λ (j, path, other, lt, below, there, here, gives). (so_far x).1
        (j, path, other, lt, below, subst (λ (file : Option Text). (bytes : Text) × (file ≡ Some bytes)) (tree_apart path (off j path other lt here gives)) there, here, gives),
  )
    where
      off : (j : ℕ) (path : Text) (other : Kind) → j < length mounts → LiesAs mounts j other path → Gives other path x → place ≢ path
      off j path other lt here gives e =
          none x (subst (λ (w : Kind). Gives w place x) (only j other lt (subst (LiesAs mounts j other) (sym e) here)) (subst (λ (p : Text). Gives other p x) (sym e) gives))
