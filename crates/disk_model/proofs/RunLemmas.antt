-- How a run of calls goes on.
use Rattle.std.proofs.Common.{◌⊎◌, inl, inr, ⊎_elim, ℕ, ◌≤◌, arith, refl, ◌∙◌}
use Rattle.disk_model.specs.Files.{Files}
use Rattle.disk_model.specs.Disk.{View, IsSound, Rests, Steps, Syncs}
use Rattle.disk_model.specs.Runs.{Runs, ComesBy, Leaves}

module _ (R : Files → Files → Type 0) (same : (m : Files) → R m m) where
  pub runs_none : (v : View) → Runs R v v
  runs_none v = record { later = omega arith; now = λ n im. (n, im, same n); during = λ t n le left. inl left }

  pub runs_step : (step : Files → Files → Type 0) (old new : View) → ((m n : Files) → step m n → R m n) → Steps step old new → Runs R old new
  runs_step step old new so s = record { later = s.time.later; now = now; during = λ t n le left. ⊎_elim (λ was. inl was) (λ is. inr (now n is)) (s.time.only t n le left) }
    where
      now : (n : Files) → new.images n → ComesBy R old n
      now n im = ⊎_elim (λ was. (n, was, same n)) (λ (m, was, s). (m, was, so m n s)) (s.only n im)

  pub runs_rest : (old new : View) → Rests old new → Runs R old new
  runs_rest old new s = record {
    later = s.time.later;
    now = λ n im. (n, s.only n im, same n);
    during = λ t n le left. ⊎_elim (λ was. inl was) (λ is. inr (n, s.only n is, same n)) (s.time.only t n le left);
  }

  pub runs_sync : (old new : View) → Syncs old new → Runs R old new
  runs_sync old new s = record {
    later = s.time.later;
    now = λ n im. (n, s.only n im, same n);
    during = λ t n le left. ⊎_elim (λ was. inl was) (λ is. inr (n, s.only n is, same n)) (s.time.only t n le left);
  }

  pub runs_then : ((a b c : Files) → R a b → R b c → R a c) → (old mid new : View) → Runs R old mid → Runs R mid new → Runs R old new
  runs_then joins old mid new first second = record {
    later = omega (arith, first.later, second.later);
    now = λ n im. back n (second.now n im);
    during = λ t n le left. ⊎_elim (first.during t n le) (λ r. inr (back n r)) (second.during t n (omega (arith, le, first.later)) left);
  }
    where
      back : (n : Files) → ComesBy R mid n → ComesBy R old n
      back n (m, im, r) = let from = first.now m im in (from.0, from.1, joins from.0 m n from.2 r)

module _ (P : Files → Type 0) where
  pub leaves_none : (v : View) → ((n : Files) → v.images n → P n) → Leaves P v v
  leaves_none v here = record { later = omega arith; now = here; during = λ t n le left. inl left }

  pub leaves_then : (old mid new : View) → Leaves P old mid → Leaves P mid new → Leaves P old new
  leaves_then old mid new first second = record {
    later = omega (arith, first.later, second.later);
    now = second.now;
    during = λ t n le left. ⊎_elim (first.during t n le) (λ p. inr p) (second.during t n (omega (arith, le, first.later)) left);
  }

  pub leaves_runs : (R : Files → Files → Type 0) (old new : View) → ((m n : Files) → old.images m → R m n → P n) → Runs R old new → Leaves P old new
  leaves_runs R old new so run = record {
    later = run.later;
    now = λ n im. let r = run.now n im in so r.0 n r.1 r.2;
    during = λ t n le left. ⊎_elim (λ was. inl was) (λ r. inr (so r.0 n r.1 r.2)) (run.during t n le left);
  }

  pub leaves_step : (step : Files → Files → Type 0) (old new : View) → ((n : Files) → old.images n → P n) → ((m n : Files) → old.images m → step m n → P n) → Steps step old new → Leaves P old new
  leaves_step step old new here so s = record { later = s.time.later; now = now; during = λ t n le left. ⊎_elim (λ was. inl was) (λ is. inr (now n is)) (s.time.only t n le left) }
    where
      now : (n : Files) → new.images n → P n
      now n im = ⊎_elim (here n) (λ (m, was, s). so m n was s) (s.only n im)

  pub leaves_sync : (old new : View) → ((n : Files) → old.images n → P n) → Syncs old new → Leaves P old new
  leaves_sync old new here s = record {
    later = s.time.later;
    now = λ n im. here n (s.only n im);
    during = λ t n le left. ⊎_elim (λ was. inl was) (λ is. inr (here n (s.only n is))) (s.time.only t n le left);
  }

  pub leaves_since : (old new : View) → IsSound old → ((n : Files) → old.images n → P n) → Leaves P old new → (n : Files) → new.left_since old.moment n → P n
  leaves_since old new sound here run n left = ⊎_elim (λ was. here n (sound.only_now n was)) (λ p. p) (run.during old.moment n (omega arith) left)

pub runs_weaken : (R S : Files → Files → Type 0) (old new : View) → ((m n : Files) → R m n → S m n) → Runs R old new → Runs S old new
runs_weaken R S old new so run = record {
  later = run.later;
  now = λ n im. let r = run.now n im in (r.0, r.1, so r.0 n r.2);
  during = λ t n le left. ⊎_elim (λ was. inl was) (λ (m, was, r). inr (m, was, so m n r)) (run.during t n le left);
}

pub leaves_weaken : (P Q : Files → Type 0) (old new : View) → ((n : Files) → P n → Q n) → Leaves P old new → Leaves Q old new
leaves_weaken P Q old new so run = record {
  later = run.later;
  now = λ n im. so n (run.now n im);
  during = λ t n le left. ⊎_elim (λ was. inl was) (λ p. inr (so n p)) (run.during t n le left);
}

-- nothing was asked
pub rests_none : (v : View) → Rests v v
rests_none v = record { time = record { later = omega arith; only = λ t m le left. inl left; keeps = λ t m le left. left }; files = refl; only = λ m im. im; keeps = λ m im. im }

-- nothing changed, and then again nothing
pub rests_then : (a b c : View) → Rests a b → Rests b c → Rests a c
rests_then a b c first second = record {
  time = record {
    later = omega (arith, first.time.later, second.time.later);
    only = λ t m le left. ⊎_elim (λ was. ⊎_elim (λ w. inl w) (λ im. inr (second.keeps m im)) (first.time.only t m le was)) (λ im. inr im) (back t m le left);
    keeps = λ t m le left. second.time.keeps t m (omega (arith, le, first.time.later)) (first.time.keeps t m le left);
  };
  files = second.files ∙ first.files;
  only = λ m im. first.only m (second.only m im);
  keeps = λ m im. second.keeps m (first.keeps m im);
}
  where
    back : (t : ℕ) (m : Files) → t ≤ a.moment → c.left_since t m → b.left_since t m ⊎ c.images m
    back t m le left = second.time.only t m (omega (arith, le, first.time.later)) left
