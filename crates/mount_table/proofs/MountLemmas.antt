-- The mount of a name or a folder is the last row that fits; and what is answered where a mount comes.
use Rattle.std.proofs.Common.{◌≡◌, inl, inr, ℕ, ◌+◌, ◌<◌, ◌≤◌, List, ◌∷◌, length, get_or, cond, Bool, true, false, ap, sym, ◌∙◌, subst, arith}
use Rattle.std.specs.Prelude.{Option, Some, None, MatchOption, IsTrue, is_some}
use Rattle.std.specs.List.{insert}
use Rattle.std.specs.Str.{is_utf8}
use Rattle.std.proofs.lemmas.List.{get_or_default}
use Rattle.gopass_base.specs.Text.{Text}
use Rattle.gopass_base.specs.Parts.{parts}
use Rattle.mount_table.specs.Prefixes.{folder_parts, IsPrefix, Holds}
use Rattle.mount_table.specs.Folders.{IsFolder}
use Rattle.gopass_base.specs.Paths.{IsDirPath}
use Rattle.mount_table.specs.Mounts.{IsBelow, no_row, row_at, root_of, IsTable, IsMountOf, IsMountOfFolder, new_row, HasAliasAt, LacksAlias, IsApart}
use Rattle.mount_table.specs.declared.mounts.Row.{Row}
use Rattle.mount_table.proofs.OrderLemmas.{one_alias, not_below_itself}
use Rattle.mount_table.proofs.TableLemmas.{sides, last_has_most, rooted, with_row, fits_there}

-- the last of the first n rows for which P holds
pub record IsLast (P : Row → Type 0) (rows : List Row) (last n : ℕ) : Type 0 where
  pub inside : last < length rows
  pub here : P (row_at rows last)
  pub none : (j : ℕ) → last < j → j < n → ¬ P (row_at rows j)

pub last_starts : (P : Row → Type 0) (rows : List Row) → 1 ≤ length rows → P (row_at rows 0) → IsLast P rows 0 1
last_starts P rows some h = record { inside = omega arith; here = h; none = λ j low high. absurd (omega (arith, low, high)) }

pub last_here : (P : Row → Type 0) (rows : List Row) (last now n : ℕ) (x : Row) → IsLast P rows last n → n < length rows → P (get_or rows n x) → now ≡ n → IsLast P rows now (n + 1)
last_here P rows last now n x so_far lt h same = record {
  inside = omega (arith, same);
  here = subst (λ k. P (row_at rows k)) (sym same) (subst P (get_or_default rows n x no_row lt) h);
  none = λ j low high. absurd (omega (arith, low, high, same));
}

pub last_stays : (P : Row → Type 0) (rows : List Row) (last now n : ℕ) (x : Row) → IsLast P rows last n → n < length rows → ¬ P (get_or rows n x) → now ≡ last → IsLast P rows now (n + 1)
last_stays P rows last now n x so_far lt h same = record {
  inside = (let inside = so_far.inside in omega (arith, same));
  here = subst (λ k. P (row_at rows k)) (sym same) so_far.here;
  none = λ j low high. elim (sides j n) [
    | inl before ↦ so_far.none j (omega (arith, low, same)) before
    | inr (inl at) ↦ λ p. h (subst P (ap (row_at rows) at ∙ sym (get_or_default rows n x no_row lt)) p)
    | inr (inr behind) ↦ absurd (omega (arith, high, behind))
  ];
}

as_prefix : (alias name : Text) → Holds alias name → IsPrefix (folder_parts alias) (parts name)
as_prefix alias name (next, rest, e) = (next ∷ rest, e)

pub mount_of : (root name : Text) (rows : List Row) (last n : ℕ) → IsTable root rows → IsLast (λ (row : Row). Holds row.alias name) rows last n → length rows ≤ n → IsMountOf rows name last
mount_of root name rows last n table so_far all = record {
  inside = so_far.inside;
  holds = so_far.here;
  most = λ j lt there. last_has_most root rows (parts name) last table so_far.inside (as_prefix (row_at rows last).alias name so_far.here)
      j lt (as_prefix (row_at rows j).alias name there) (λ behind. so_far.none j behind (omega arith) there);
}

pub mount_of_folder : (root folder : Text) (rows : List Row) (last n : ℕ) → IsTable root rows → IsLast (λ (row : Row). IsPrefix (folder_parts row.alias) (folder_parts folder)) rows last n → length rows ≤ n → IsMountOfFolder rows folder last
mount_of_folder root folder rows last n table so_far all = record {
  inside = so_far.inside;
  reaches = so_far.here;
  most = λ j lt there. last_has_most root rows (folder_parts folder) last table so_far.inside so_far.here j lt there (λ behind. so_far.none j behind (omega arith) there);
}

-- ---- a mount that comes

pub lacks_by : (r : Option ℕ) (rows : List Row) (alias : Text) → MatchOption r (LacksAlias rows alias) (HasAliasAt rows alias) → is_some r ≡ false → LacksAlias rows alias
lacks_by None rows alias h e = h
lacks_by (Some k) rows alias h e = cc

-- the rows after a call that puts one in, or fails
pub comes : (root : Text) (rows now : List Row) (alias dir alias' dir' : Text) (at : ℕ) (done : Bool) → IsTable root rows → alias' ≡ alias → dir' ≡ dir → now ≡ cond done (insert rows at (new_row alias' dir')) rows
    → IsTrue (is_utf8 alias) × IsFolder alias → IsTrue (is_utf8 dir) × IsDirPath dir → length rows < 64 → LacksAlias rows alias → IsApart rows dir → at ≤ length rows
    → ((k : ℕ) → k < at → ¬ IsBelow alias (row_at rows k).alias) → (at < length rows → IsBelow alias (row_at rows at).alias) → IsTable (root_of now) now
comes root rows now alias dir alias' dir' at false table same_alias same_dir is good_alias good_dir room other apart inside lower upper = subst (λ (rows : List Row). IsTable (root_of rows) rows) (sym is) (rooted root rows table)
comes root rows now alias dir alias' dir' at true table same_alias same_dir is good_alias good_dir room other apart inside lower upper =
    let row : new_row alias' dir' ≡ new_row alias dir = (λ i. new_row (same_alias i) (same_dir i)) in
    subst (λ (rows : List Row). IsTable (root_of rows) rows) (sym (is ∙ ap (insert rows at) row))
    (rooted root (insert rows at (new_row alias dir)) (with_row root rows (new_row alias dir) at table
    (fits_there root rows (new_row alias dir) at table (record { alias_text = good_alias.0; alias_folder = good_alias.1; dir_text = good_dir.0; dir_path = good_dir.1 }) room other apart inside lower upper)))

-- ---- a name has one mount

pub one_holder : (name a b : Text) → Holds a name → Holds b name → length (folder_parts a) ≡ length (folder_parts b) → a ≡ b
one_holder name a b h k same = one_alias a b (parts name) (as_prefix a name h) (as_prefix b name k) same

pub one_row : (root name : Text) (rows : List Row) (j k : ℕ) → IsTable root rows → IsMountOf rows name j → IsMountOf rows name k → j ≡ k
one_row root name rows j k table m n =
    let same : (row_at rows j).alias ≡ (row_at rows k).alias = one_holder name (row_at rows j).alias (row_at rows k).alias m.holds n.holds (omega (arith, m.most k n.inside n.holds, n.most j m.inside m.holds)) in
    elim (sides j k) [
      | inl low ↦ absurd (not_below_itself (row_at rows k).alias (subst (λ (t : Text). IsBelow t (row_at rows k).alias) same (table.rows_are.before j k low n.inside).rises))
      | inr (inl here) ↦ here
      | inr (inr high) ↦ absurd (not_below_itself (row_at rows k).alias (subst (λ (t : Text). IsBelow (row_at rows k).alias t) same (table.rows_are.before k j high m.inside).rises))
    ]
