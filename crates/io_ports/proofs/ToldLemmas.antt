-- What a stream told, moment after moment.
use Rattle.std.proofs.Common.{Option, Some, None}
use Rattle.gopass_base.specs.Text.{Text}
use Rattle.io_ports.specs.Told.{Told}

pub told_two : (P Q R : Text → Text → Type 0) → ((a b c : Text) → P a b → Q b c → R a c) → (x y z : Option Text) → Told P x y → Told Q y z → Told R x z
told_two P Q R join None None None p q = tt
told_two P Q R join None None (Some c) p q = q
told_two P Q R join None (Some b) z p q = absurd p
told_two P Q R join (Some a) None None p q = tt
told_two P Q R join (Some a) None (Some c) p q = absurd q
told_two P Q R join (Some a) (Some b) None p q = tt
told_two P Q R join (Some a) (Some b) (Some c) p q = join a b c p q

pub told_as : (P Q : Text → Text → Type 0) → ((a b : Text) → P a b → Q a b) → (x y : Option Text) → Told P x y → Told Q x y
told_as P Q turn None None p = tt
told_as P Q turn None (Some b) p = p
told_as P Q turn (Some a) None p = tt
told_as P Q turn (Some a) (Some b) p = turn a b p
