use Rattle.gopass_cli.proofs.answers.files_are_an_image.Goals as goal

pub returns : goal.returns
returns g c told = g.met.D.Disk.sound c.args.disk.now told
