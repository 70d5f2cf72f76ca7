-- What the steps of a disk leave at each path.
use Rattle.std.proofs.Common.{◌≡◌, ◌≢◌, ◌⊎◌, inl, inr, true, false, if◌then◌else◌, Option, None, Some, refl, sym, ◌∙◌, ap, subst, bytes_eq}
use Rattle.gopass_base.specs.Text.{Text}
use Rattle.std.proofs.lemmas.Bool.{cases_Bool, false≢true}
use Rattle.std.proofs.lemmas.Slice.Eq.{bytes_eq-Decides}
use Rattle.disk_model.specs.Files.{Files, put, moved, moved_file}

pub cases_path : (p q : Text) → (p ≡ q) ⊎ (p ≢ q)
cases_path p q = elim (cases_Bool (bytes_eq p q)) [
  | inl on ↦ inl ((bytes_eq-Decides p q).0 on)
  | inr off ↦ inr (λ e. false≢true (sym off ∙ (bytes_eq-Decides p q).1 e))
]

pub same_path : (p : Text) → bytes_eq p p ≡ true
same_path p = (bytes_eq-Decides p p).1 refl

pub other_path : (p q : Text) → p ≢ q → bytes_eq p q ≡ false
other_path p q apart = elim (cases_Bool (bytes_eq p q)) [
  | inl on ↦ absurd (apart ((bytes_eq-Decides p q).0 on))
  | inr off ↦ off
]

pub put_here : (m : Files) (p : Text) (v : Option (Text)) → put m p v p ≡ v
unfolding put
put_here m p v = ap (λ b. if b then v else m p) (same_path p)

pub put_apart : (m : Files) (p q : Text) (v : Option (Text)) → p ≢ q → put m p v q ≡ m q
unfolding put
put_apart m p q v apart = ap (λ b. if b then v else m q) (other_path p q apart)

pub moved_none : (a b : Text) (m : Files) → m a ≡ None → moved a b m ≡ m
unfolding moved
moved_none a b m none = ap (λ f. moved_file f a b m) none

pub moved_some : (a b : Text) (m : Files) (v : Text) → m a ≡ Some v → moved a b m ≡ put (put m a None) b (Some v)
unfolding moved
moved_some a b m v some = ap (λ f. moved_file f a b m) some

pub cases_file : (f : Option (Text)) → (f ≡ None) ⊎ ((v : Text) × (f ≡ Some v))
cases_file None = inl refl
cases_file (Some v) = inr (v, refl)

-- away from both its paths a rename changes nothing
pub moved_apart : (a b : Text) (m : Files) (q : Text) → a ≢ q → b ≢ q → moved a b m q ≡ m q
moved_apart a b m q not_from not_to = elim (cases_file (m a)) [
  | inl none ↦ ap (λ (f : Files). f q) (moved_none a b m none)
  | inr (v, some) ↦ ap (λ (f : Files). f q) (moved_some a b m v some) ∙ put_apart (put m a None) b q (Some v) not_to ∙ put_apart m a q None not_from
]

pub moved_from : (a b : Text) (m : Files) → b ≢ a → moved a b m a ≡ None
moved_from a b m apart = elim (cases_file (m a)) [
  | inl none ↦ ap (λ (f : Files). f a) (moved_none a b m none) ∙ none
  | inr (v, some) ↦ ap (λ (f : Files). f a) (moved_some a b m v some) ∙ put_apart (put m a None) b a (Some v) apart ∙ put_here m a None
]

-- no file comes but at the path that it is moved to
pub moved_none_stays : (a b : Text) (m : Files) (q : Text) → b ≢ q → m q ≡ None → moved a b m q ≡ None
moved_none_stays a b m q not_to none = elim (cases_path a q) [
  | inl e ↦ subst (λ (p : Text). moved a b m p ≡ None) e (moved_from a b m (λ t. not_to (t ∙ e)))
  | inr not_from ↦ moved_apart a b m q not_from not_to ∙ none
]

pub put_none_stays : (m : Files) (p q : Text) → m q ≡ None → put m p None q ≡ None
put_none_stays m p q none = elim (cases_path p q) [
  | inl e ↦ subst (λ (r : Text). put m p None r ≡ None) e (put_here m p None)
  | inr apart ↦ put_apart m p q None apart ∙ none
]
