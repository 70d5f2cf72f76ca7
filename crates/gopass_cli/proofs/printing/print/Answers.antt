use Rattle.std.proofs.Common.{subst, sym, inl, inr, refl}
use Rattle.gopass_base.specs.Text.{Text}
use Rattle.io_ports.specs.Sink.{Took, TookPart}
use Rattle.gopass_cli.proofs.ResultLemmas.{on_err, on_ok}
use Rattle.gopass_cli.proofs.printing.print.Goals as goal

pub returns-then-is_err-clause-printed : goal.returns-then-is_err-clause-printed
returns-then-is_err-clause-printed g c =
    let failed = c.if-is_err.ensures.value in
    let whole = c.deref.ensures.value in
    let part = on_err _ failed c.put_all.ensures.part in
    inr (inl (record {
      status_is = c.code.ensures;
      stops = record {
        part = subst (λ (bytes : Text). TookPart (g.O.Sink.meaning.held c.args.out.now) (g.O.Sink.meaning.held c.put_all.new.sink) bytes) whole part;
        rose = c.put_all.ensures.cause.failed (sym failed);
      };
      rests = refl;
    }))

pub returns-then-is_err-2-clause-printed : goal.returns-then-is_err-2-clause-printed
returns-then-is_err-2-clause-printed g c =
    let took = on_ok _ c.if-is_err.ensures.value c.put_all.ensures.all in
    let failed = c.if-is_err-2.ensures.value in
    let part = on_err _ failed c.put_all-2.ensures.part in
    inr (inr (record {
      status_is = c.code-then-is_err-2.ensures;
      took_out = subst (λ (bytes : Text). Took (g.O.Sink.meaning.held c.args.out.now) (g.O.Sink.meaning.held c.put_all.new.sink) bytes) c.deref.ensures.value took;
      stops = record {
        part = subst (λ (bytes : Text). TookPart (g.E.Sink.meaning.held c.args.err.now) (g.E.Sink.meaning.held c.put_all-2.new.sink) bytes) c.err_bytes.ensures part;
        rose = c.put_all-2.ensures.cause.failed (sym failed);
      };
    }))

pub returns-clause-printed : goal.returns-clause-printed
returns-clause-printed g c =
    let took = on_ok _ c.if-is_err.ensures.value c.put_all.ensures.all in
    let also = on_ok _ c.if-is_err-2.ensures.value c.put_all-2.ensures.all in
    inl (record {
      status_is = refl;
      took_out = subst (λ (bytes : Text). Took (g.O.Sink.meaning.held c.args.out.now) (g.O.Sink.meaning.held c.put_all.new.sink) bytes) c.deref.ensures.value took;
      took_err = subst (λ (bytes : Text). Took (g.E.Sink.meaning.held c.args.err.now) (g.E.Sink.meaning.held c.put_all-2.new.sink) bytes) c.err_bytes.ensures also;
    })
