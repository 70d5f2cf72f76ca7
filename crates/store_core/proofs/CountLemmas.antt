-- The listings of a store and the numbers of its files, where one file was written or taken away.
use Rattle.std.proofs.Common.{◌≡◌, ◌≢◌, ◌↔◌, inl, inr, ℕ, ◌+◌, ◌-◌, ◌<◌, Bool, true, false, not, cond, List, [], ◌∷◌, length, set, slice_index_or, Option, Some, None, bytes_eq, refl, ap, sym, ◌∙◌, subst, arith}
use Rattle.std.specs.Prelude.{Contains, is_some}
use Rattle.std.specs.List.{filter, insert}
use Rattle.std.specs.Ordering.{nat_cmp}
use Rattle.std.specs.Cmp.Lexicographic.{slice_cmp}
use Rattle.std.proofs.lemmas.Bool.{cases_eq, false≢true}
use Rattle.std.proofs.lemmas.List.{get_or-set_same, get_or-set_other, length-set}
use Rattle.std.proofs.lemmas.List.Kept.{IsStrictlySortedBy-filter}
use Rattle.std.proofs.lemmas.Slice.Eq.{bytes_eq-Decides}
use Rattle.gopass_base.specs.Text.{Text}
use Rattle.gopass_base.proofs.ListLemmas.{here, later, first_or}
use Rattle.mount_table.specs.Mounts.{row_at}
use Rattle.mount_table.specs.declared.mounts.Row.{Row}
use Rattle.disk_model.specs.Files.{Files}
use Rattle.disk_model.specs.Listing.{IsListing, LiesIn, IsThere}
use Rattle.disk_model.proofs.FileLemmas.{cases_path, other_path}
use Rattle.store_state.specs.Tree.{tree_files}
use Rattle.store_state.proofs.PlaceLemmas.{inserted_has, inserted_length, inserted_rising, place_of}
use Rattle.store_state.proofs.StateLemmas.{one_listing}
use Rattle.store_core.specs.Edit.{resized}

-- ---- a listing without one of its texts

pub filter_has : (p : Text → Bool) (xs : List Text) (q : Text) → (Contains (filter p xs) q → Contains xs q × (p q ≡ true)) × (Contains xs q → p q ≡ true → Contains (filter p xs) q)
filter_has p [] q = (λ (k, lt, is). absurd (omega (arith, lt)), λ (k, lt, is) e. absurd (omega (arith, lt)))
filter_has p (x ∷ xs) q = by (p x) refl (filter_has p xs q)
  where
    by : (b : Bool) → p x ≡ b → (Contains (filter p xs) q → Contains xs q × (p q ≡ true)) × (Contains xs q → p q ≡ true → Contains (filter p xs) q)
        → (Contains (cond b (x ∷ filter p xs) (filter p xs)) q → Contains (x ∷ xs) q × (p q ≡ true)) × (Contains (x ∷ xs) q → p q ≡ true → Contains (cond b (x ∷ filter p xs) (filter p xs)) q)
    by true e more = (
      λ has. elim (first_or x (filter p xs) q has) [
        | inl same ↦ (subst (Contains (x ∷ xs)) same (here x xs), subst (λ (t : Text). p t ≡ true) same e)
        | inr rest ↦ (later x xs q (more.0 rest).0, (more.0 rest).1)
      ],
      λ has on. elim (first_or x xs q has) [
        | inl same ↦ subst (Contains (x ∷ filter p xs)) same (here x (filter p xs))
        | inr rest ↦ later x (filter p xs) q (more.1 rest on)
      ],
    )
    by false e more = (
      λ has. (later x xs q (more.0 has).0, (more.0 has).1),
      λ has on. elim (first_or x xs q has) [
        | inl same ↦ absurd (false≢true (sym e ∙ (ap p same ∙ on)))
        | inr rest ↦ more.1 rest on
      ],
    )

-- ---- a tree with one file more or less

module _ (f g : Files) (p : Text) (dir : Text) where
  -- the listing stays where the file is there in both or in neither
  pub listing_same : ((q : Text) → p ≢ q → g q ≡ f q) → (LiesIn dir p → IsThere f p → IsThere g p) → (LiesIn dir p → IsThere g p → IsThere f p) → (paths : List Text) → IsListing f dir paths → IsListing g dir paths
  listing_same apart to from paths h = record {
    rising = h.rising;
    each = λ q. elim (cases_path p q) [
      | inl same ↦ subst (λ (t : Text). Contains paths t ↔ (LiesIn dir t × IsThere g t)) same (
        λ has. (let (lies, there) = (h.each p).0 has in (lies, to lies there)),
        λ (lies, there). (h.each p).1 (lies, from lies there),
      )
      | inr other ↦ subst (λ (file : Option Text). Contains paths q ↔ (LiesIn dir q × ((bytes : Text) × (file ≡ Some bytes)))) (sym (apart q other)) (h.each q)
    ];
  }

  -- it has one path more
  pub listing_longer : ((q : Text) → p ≢ q → g q ≡ f q) → LiesIn dir p → ¬ IsThere f p → IsThere g p → (paths : List Text) → IsListing f dir paths → (now : List Text) × IsListing g dir now × (length now ≡ length paths + 1)
  listing_longer apart lies fresh there paths h =
      let (at, place) = place_of paths p h.rising (λ has. fresh ((h.each p).0 has).1) in (
        insert paths at p,
        record {
          rising = inserted_rising paths at p h.rising place;
          each = λ q. (
            λ has. elim ((inserted_has paths at p q).0 has) [
              | inl was ↦ (let (in_dir, is) = (h.each q).0 was in (
                in_dir,
                elim (cases_path p q) [
                  | inl same ↦ subst (IsThere g) same there
                  | inr other ↦ subst (λ (file : Option Text). (bytes : Text) × (file ≡ Some bytes)) (sym (apart q other)) is
                ],
              ))
              | inr same ↦ (subst (LiesIn dir) (sym same) lies, subst (IsThere g) (sym same) there)
            ],
            λ (in_dir, is). (inserted_has paths at p q).1 (elim (cases_path p q) [
              | inl same ↦ inr (sym same)
              | inr other ↦ inl ((h.each q).1 (in_dir, subst (λ (file : Option Text). (bytes : Text) × (file ≡ Some bytes)) (apart q other) is))
            ]),
          );
        },
        inserted_length paths at p place,
      )

-- it has one path less
pub listing_shorter : (f g : Files) (p dir : Text) → ((q : Text) → p ≢ q → g q ≡ f q) → LiesIn dir p → IsThere f p → ¬ IsThere g p → (paths : List Text) → IsListing f dir paths → (now : List Text) × IsListing g dir now × (length paths ≡ length now + 1)
listing_shorter f g p dir apart lies was gone paths h =
    let left = filter (λ q. not (bytes_eq p q)) paths in
    let listing : IsListing g dir left = record {
      rising = IsStrictlySortedBy-filter (slice_cmp nat_cmp) (λ q. not (bytes_eq p q)) paths h.rising;
      each = λ q. (
        λ has. (let (in_paths, on) = (filter_has (λ t. not (bytes_eq p t)) paths q).0 has in
            let (in_dir, is) = (h.each q).0 in_paths in
            (in_dir, subst (λ (file : Option Text). (bytes : Text) × (file ≡ Some bytes)) (sym (apart q (λ e. false≢true (sym (ap not ((bytes_eq-Decides p q).1 e)) ∙ on)))) is)),
        λ (in_dir, is). elim (cases_path p q) [
          | inl same ↦ absurd (gone (subst (IsThere g) (sym same) is))
          | inr other ↦ (filter_has (λ t. not (bytes_eq p t)) paths q).1 ((h.each q).1 (in_dir, subst (λ (file : Option Text). (bytes : Text) × (file ≡ Some bytes)) (apart q other) is)) (ap not (other_path p q other))
        ],
      );
    } in
    let (all, again, longer) = listing_longer g f p dir (λ q other. sym (apart q other)) lies gone was left listing in
    (left, listing, ap length (one_listing f dir paths all h again) ∙ longer)

-- so many files lie below the directory of the k-th mount
abbrev pub IsCounted : (root : Text) → Files → List Row → ℕ → ℕ → Type 0
IsCounted root files mounts k count = (paths : List Text) × IsListing (tree_files root files) (row_at mounts k).dir paths × (count ≡ length paths)

none_there : {file : Option Text} → file ≡ None → ¬ ((bytes : Text) × (file ≡ Some bytes))
none_there is (bytes, e) = (let f : None ≡ Some bytes = sym is ∙ e in cc)

-- a path that lies below the directory of one mount alone, whatever lies there
module _ (root : Text) (files next : Files) (mounts : List Row) (sizes : List ℕ) (path : Text) (row : ℕ) (file : Option Text) (apart : (q : Text) → path ≢ q → tree_files root next q ≡ tree_files root files q) (here : tree_files root next path ≡ file)
    (inside : row < length mounts) (lies : LiesIn (row_at mounts row).dir path) (alone : (k : ℕ) → k < length mounts → LiesIn (row_at mounts k).dir path → row ≡ k)
    (as_many : length sizes ≡ length mounts) (each : (k : ℕ) → k < length mounts → IsCounted root files mounts k (slice_index_or sizes k 0)) where
  same : (k : ℕ) → k < length mounts → (LiesIn (row_at mounts k).dir path → IsThere (tree_files root files) path → IsThere (tree_files root next) path)
      → (LiesIn (row_at mounts k).dir path → IsThere (tree_files root next) path → IsThere (tree_files root files) path) → IsCounted root next mounts k (slice_index_or sizes k 0)
  same k lt to from = (let (paths, listing, is) = each k lt in (paths, listing_same (tree_files root files) (tree_files root next) path (row_at mounts k).dir apart to from paths listing, is))

  in_row : (n : ℕ) → IsCounted root next mounts row n → (k : ℕ) → k < length mounts → IsCounted root next mounts k (slice_index_or (set sizes row n) k 0)
  in_row n counts k lt = elim (cases_eq k row) [
    | inl e ↦ subst (λ m. IsCounted root next mounts m (slice_index_or (set sizes row n) m 0)) (sym e)
        (subst (IsCounted root next mounts row) (sym (get_or-set_same sizes row n 0 (omega (arith, as_many, inside)))) counts)
    | inr other ↦ subst (IsCounted root next mounts k) (sym (get_or-set_other sizes row k n 0 other)) (same k lt (λ it. absurd (other (sym (alone k lt it)))) (λ it. absurd (other (sym (alone k lt it)))))
  ]

  pub counted_by : (was : Bool) (now : Option Text) → (was ≡ true → IsThere (tree_files root files) path) → (was ≡ false → ¬ IsThere (tree_files root files) path) → file ≡ now
      → (length (resized was (is_some now) row sizes) ≡ length mounts) × ((k : ℕ) → k < length mounts → IsCounted root next mounts k (slice_index_or (resized was (is_some now) row sizes) k 0))
  counted_by true (Some bytes) on off is = (as_many, λ k lt. same k lt (λ it there. (bytes, here ∙ is)) (λ it there. on refl))
  counted_by false None on off is = (as_many, λ k lt. same k lt (λ it there. absurd (off refl there)) (λ it there. absurd (none_there (here ∙ is) there)))
  counted_by false (Some bytes) on off is =
      let (paths, listing, many) = each row inside in
      let (now, longer, more) = listing_longer (tree_files root files) (tree_files root next) path (row_at mounts row).dir apart lies (off refl) (bytes, here ∙ is) paths listing in
      (length-set sizes row (slice_index_or sizes row 0 + 1) ∙ as_many, in_row (slice_index_or sizes row 0 + 1) (now, longer, omega (arith, many, more)))
  counted_by true None on off is =
      let (paths, listing, many) = each row inside in
      let (now, shorter, less) = listing_shorter (tree_files root files) (tree_files root next) path (row_at mounts row).dir apart lies (on refl) (none_there (here ∙ is)) paths listing in
      (length-set sizes row (slice_index_or sizes row 0 - 1) ∙ as_many, in_row (slice_index_or sizes row 0 - 1) (now, shorter, omega (arith, many, less)))
