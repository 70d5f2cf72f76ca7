-- Tables with the same places have the same mounts of names and folders.
use Rattle.std.proofs.Common.{◌≡◌, inl, inr, ℕ, ◌<◌, List, length, set, refl, ap, sym, ◌∙◌, subst, arith}
use Rattle.std.proofs.lemmas.Bool.{cases_eq}
use Rattle.std.proofs.lemmas.List.{get_or-set_same, get_or-set_other, length-set}
use Rattle.gopass_base.specs.Text.{Text}
use Rattle.mount_table.specs.Prefixes.{Holds, IsPrefix, folder_parts}
use Rattle.mount_table.specs.Mounts.{IsMountOf, IsMountOfFolder, IsTable, no_row, row_at}
use Rattle.mount_table.specs.MountOf.{mount_of}
use Rattle.mount_table.specs.SamePlaces.{HaveSamePlaces}
use Rattle.mount_table.specs.declared.mounts.Row.{Row}
use Rattle.mount_table.proofs.MountLemmas.{one_row}
use Rattle.mount_table.proofs.MountOfLemmas.{mount_computed}
use Rattle.mount_table.proofs.TableLemmas.{stands_table}

pub places_back : (rows others : List Row) → HaveSamePlaces rows others → HaveSamePlaces others rows
places_back rows others same = record { as_many = sym same.as_many; aliases = λ k. sym (same.aliases k); dirs = λ k. sym (same.dirs k) }

-- where one row has another mark
pub places_marked : (rows : List Row) (k : ℕ) (row : Row) → k < length rows → row.alias ≡ (row_at rows k).alias → row.dir ≡ (row_at rows k).dir → HaveSamePlaces rows (set rows k row)
places_marked rows k row inside alias dir = record { as_many = length-set rows k row; aliases = kept (λ r. r.alias) alias; dirs = kept (λ r. r.dir) dir }
  where
    kept : (f : Row → Text) → f row ≡ f (row_at rows k) → (i : ℕ) → f (row_at (set rows k row) i) ≡ f (row_at rows i)
    kept f same i = elim (cases_eq i k) [
      | inl here ↦ subst (λ n. f (row_at (set rows k row) n) ≡ f (row_at rows n)) (sym here) (ap f (get_or-set_same rows k row no_row inside) ∙ same)
      | inr other ↦ ap f (get_or-set_other rows k i row no_row other)
    ]

module _ (rows others : List Row) (same : HaveSamePlaces rows others) where
  -- one is a table where the other is
  pub places_table : (root : Text) → IsTable root rows → IsTable root others
  places_table root table = stands_table root rows others (λ k. k) table (record {
    some = (let some = table.some in omega (arith, some, same.as_many));
    fewer = omega (arith, same.as_many);
    root_first = refl;
    inside = λ k inside. omega (arith, inside, same.as_many);
    order = λ i k before. before;
    alias_is = λ k inside. sym (same.aliases k);
    dir_is = λ k inside. sym (same.dirs k);
  })

  pub mount_moves : (name : Text) (k : ℕ) → IsMountOf rows name k → IsMountOf others name k
  mount_moves name k own = record {
    inside = (let inside = own.inside in omega (arith, inside, same.as_many));
    holds = subst (λ (alias : Text). Holds alias name) (sym (same.aliases k)) own.holds;
    most = λ j inside holds. omega (
      arith,
      own.most j (omega (arith, inside, same.as_many)) (subst (λ (alias : Text). Holds alias name) (same.aliases j) holds),
      ap (λ (alias : Text). length (folder_parts alias)) (same.aliases j),
      ap (λ (alias : Text). length (folder_parts alias)) (same.aliases k),
    );
  }

  pub folder_mount_moves : (folder : Text) (k : ℕ) → IsMountOfFolder rows folder k → IsMountOfFolder others folder k
  folder_mount_moves folder k own = record {
    inside = (let inside = own.inside in omega (arith, inside, same.as_many));
    reaches = subst (λ (alias : Text). IsPrefix (folder_parts alias) (folder_parts folder)) (sym (same.aliases k)) own.reaches;
    most = λ j inside reaches. omega (
      arith,
      own.most j (omega (arith, inside, same.as_many)) (subst (λ (alias : Text). IsPrefix (folder_parts alias) (folder_parts folder)) (same.aliases j) reaches),
      ap (λ (alias : Text). length (folder_parts alias)) (same.aliases j),
      ap (λ (alias : Text). length (folder_parts alias)) (same.aliases k),
    );
  }

  -- so the mount that is computed of a name is the same
  pub mount_same : (root name : Text) → IsTable root rows → mount_of others name ≡ mount_of rows name
  mount_same root name table =
      let now = places_table root table in
      one_row root name others (mount_of others name) (mount_of rows name) now (mount_computed root name others now) (mount_moves name (mount_of rows name) (mount_computed root name rows table))
