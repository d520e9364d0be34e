use Rattle.std.proofs.Common.{Option, Some, ap, subst, sym, ◌∙◌, ◌≡◌, ◌⊎◌}
use Rattle.psa_command.proofs.{Common.Command, Common.EndsBy, Common.Exit, Common.IsBeforeOpening, Common.IsDonePlainly, Common.IsReadable, Common.KeepsQuotas, Common.Memory, Common.ReadFault, Common.Script, Causes.HasCause, Causes.bad_cell, Causes.cause, Causes.complete, Causes.no_store, Causes.quota, Causes.refused, Causes.unwritten}
use Rattle.admission.specs.Apply.{picked}
use Rattle.command_words.specs.declared.command.Command.TheVariants as commands
use Rattle.psa_command.proofs.command.run_command.Goals as goal

same_command : {a b : Command} {read inner : Option Command} (c : Command) → inner ≡ read → inner ≡ Some c → c ≡ a → read ≡ Some b → a ≡ b
same_command c v i o h = cc

-- a generator's end isn't one before its opening
late : {exit : Exit} → (IsBeforeOpening exit → ⊥) → (other : Exit) → IsBeforeOpening other → exit ≡ other → ⊥
late refuses other before e = refuses (subst IsBeforeOpening (sym e) before)

pub returns-in-Ok-Some-Run-clause-ends : goal.returns-in-Ok-Some-Run-clause-ends
returns-in-Ok-Some-Run-clause-ends g c = λ asked h.
    let named = c.pick-rules.ensures ∙ ap (λ l. picked l (g.L.RuleList.labels c.args.rules)) c.as_slice.ensures in
    subst (λ x. EndsBy g.D.Disk g.A.Devices g.L.Picked.Admission (g.L.RuleList.labels c.args.rules) (g.S.Source.left c.args.source.now) c.args.disk c.args.devices x c.run_script.result.disk c.run_script.result.devices c.run_script.result.exit (g.K.Sink.taken c.args.sink.now) (g.K.Sink.taken c.run_script.new.sink))
    (same_command {a = commands.Run c.in-Ok-Some-Run.options} {b = asked} c.in-Ok-Some-Run.field-0-0 c.in-Ok-Some-Run.ensures.value c.in-Ok-Some-Run.field-0-is c.in-Ok-Some-Run.field-0-0-is h)
    (c.run_script.ensures.ends (g.L.RuleList.labels c.args.rules) named)

pub returns-in-Ok-Some-Run-clause-complete : goal.returns-in-Ok-Some-Run-clause-complete
returns-in-Ok-Some-Run-clause-complete g c = λ asked h reads r w d has quotas.
    let e = c.run_script.ensures in let named = c.pick-rules.ensures ∙ ap (λ l. picked l (g.L.RuleList.labels c.args.rules)) c.as_slice.ensures in
    let same = same_command {a = commands.Run c.in-Ok-Some-Run.options} {b = asked} c.in-Ok-Some-Run.field-0-0 c.in-Ok-Some-Run.ensures.value c.in-Ok-Some-Run.field-0-is c.in-Ok-Some-Run.field-0-0-is h in
    subst (λ x. IsDonePlainly g.D.Disk g.A.Devices g.L.Picked.Admission (g.L.RuleList.labels c.args.rules) (g.S.Source.left c.args.source.now) c.args.disk c.args.devices x c.run_script.result.disk c.run_script.result.devices c.run_script.result.exit (g.K.Sink.taken c.args.sink.now) (g.K.Sink.taken c.run_script.new.sink) ⊎ (c.run_script.result.exit ≡ Memory)) same
    (complete g.D.Disk g.A.Devices g.L.Picked.Admission (g.L.RuleList.labels c.args.rules) (g.S.Source.left c.args.source.now) c.args.disk c.args.devices (commands.Run c.in-Ok-Some-Run.options) c.run_script.result.disk c.run_script.result.devices c.run_script.result.exit _ _ _ _
    (record { ends = e.ends (g.L.RuleList.labels c.args.rules) named; script = e.script; read = e.read; write = e.write })
    (subst (λ x. IsReadable x (g.S.Source.left c.args.source.now)) (sym same) reads) r w d has (subst (λ x. KeepsQuotas x (g.S.Source.left c.args.source.now) (g.D.Disk.contents c.args.disk)) (sym same) quotas))

pub returns-in-Ok-Some-Run-clause-no_store : goal.returns-in-Ok-Some-Run-clause-no_store
returns-in-Ok-Some-Run-clause-no_store g c = λ asked h reads r d tells.
    let e = c.run_script.ensures in let named = c.pick-rules.ensures ∙ ap (λ l. picked l (g.L.RuleList.labels c.args.rules)) c.as_slice.ensures in
    let same = same_command {a = commands.Run c.in-Ok-Some-Run.options} {b = asked} c.in-Ok-Some-Run.field-0-0 c.in-Ok-Some-Run.ensures.value c.in-Ok-Some-Run.field-0-is c.in-Ok-Some-Run.field-0-0-is h in
    no_store g.D.Disk g.A.Devices g.L.Picked.Admission (g.L.RuleList.labels c.args.rules) (g.S.Source.left c.args.source.now) c.args.disk c.args.devices (commands.Run c.in-Ok-Some-Run.options) c.run_script.result.disk c.run_script.result.devices c.run_script.result.exit _ _ _ _
    (record { ends = e.ends (g.L.RuleList.labels c.args.rules) named; script = e.script; read = e.read; write = e.write })
    (subst (λ x. IsReadable x (g.S.Source.left c.args.source.now)) (sym same) reads) r d tells

pub returns-in-Ok-Some-Run-clause-bad_cell : goal.returns-in-Ok-Some-Run-clause-bad_cell
returns-in-Ok-Some-Run-clause-bad_cell g c = λ asked h reads r d cell tells.
    let e = c.run_script.ensures in let named = c.pick-rules.ensures ∙ ap (λ l. picked l (g.L.RuleList.labels c.args.rules)) c.as_slice.ensures in
    let same = same_command {a = commands.Run c.in-Ok-Some-Run.options} {b = asked} c.in-Ok-Some-Run.field-0-0 c.in-Ok-Some-Run.ensures.value c.in-Ok-Some-Run.field-0-is c.in-Ok-Some-Run.field-0-0-is h in
    bad_cell g.D.Disk g.A.Devices g.L.Picked.Admission (g.L.RuleList.labels c.args.rules) (g.S.Source.left c.args.source.now) c.args.disk c.args.devices (commands.Run c.in-Ok-Some-Run.options) c.run_script.result.disk c.run_script.result.devices c.run_script.result.exit _ _ _ _
    (record { ends = e.ends (g.L.RuleList.labels c.args.rules) named; script = e.script; read = e.read; write = e.write })
    (subst (λ x. IsReadable x (g.S.Source.left c.args.source.now)) (sym same) reads) r d cell tells

pub returns-in-Ok-Some-Run-clause-over_quota : goal.returns-in-Ok-Some-Run-clause-over_quota
returns-in-Ok-Some-Run-clause-over_quota g c = λ owner h.
    let e = c.run_script.ensures in let named = c.pick-rules.ensures ∙ ap (λ l. picked l (g.L.RuleList.labels c.args.rules)) c.as_slice.ensures in
    subst (HasCause g.D.Disk g.A.Devices g.L.Picked.Admission (g.L.RuleList.labels c.args.rules) (g.S.Source.left c.args.source.now) c.args.disk c.args.devices (commands.Run c.in-Ok-Some-Run.options) c.run_script.result.disk c.run_script.result.devices) h
    (cause g.D.Disk g.A.Devices g.L.Picked.Admission (g.L.RuleList.labels c.args.rules) (g.S.Source.left c.args.source.now) c.args.disk c.args.devices (commands.Run c.in-Ok-Some-Run.options) c.run_script.result.disk c.run_script.result.devices c.run_script.result.exit _ _ (e.ends (g.L.RuleList.labels c.args.rules) named))

pub returns-in-Ok-Some-Run-clause-quota : goal.returns-in-Ok-Some-Run-clause-quota
returns-in-Ok-Some-Run-clause-quota g c = λ asked h states r d owner tells.
    let e = c.run_script.ensures in let named = c.pick-rules.ensures ∙ ap (λ l. picked l (g.L.RuleList.labels c.args.rules)) c.as_slice.ensures in
    quota g.D.Disk g.A.Devices g.L.Picked.Admission (g.L.RuleList.labels c.args.rules) c.args.disk c.args.devices c.in-Ok-Some-Run.options c.run_script.result.disk c.run_script.result.devices (g.S.Source.left c.args.source.now) c.run_script.result.exit _ _ _ _
    (record { ends = e.ends (g.L.RuleList.labels c.args.rules) named; script = e.script; read = e.read; write = e.write }) states r d owner tells

pub returns-in-Ok-Some-Run-clause-refused : goal.returns-in-Ok-Some-Run-clause-refused
returns-in-Ok-Some-Run-clause-refused g c = λ asked h r.
    let e = c.run_script.ensures in let named = c.pick-rules.ensures ∙ ap (λ l. picked l (g.L.RuleList.labels c.args.rules)) c.as_slice.ensures in
    refused g.D.Disk g.A.Devices g.L.Picked.Admission (g.L.RuleList.labels c.args.rules) c.args.disk c.args.devices c.in-Ok-Some-Run.options c.run_script.result.disk c.run_script.result.devices (g.S.Source.left c.args.source.now) c.run_script.result.exit _ _ _ _
    (record { ends = e.ends (g.L.RuleList.labels c.args.rules) named; script = e.script; read = e.read; write = e.write }) r

pub returns-in-Ok-Some-Generate-clause-ends : goal.returns-in-Ok-Some-Generate-clause-ends
returns-in-Ok-Some-Generate-clause-ends g c = λ asked h.
    subst (λ x. EndsBy g.D.Disk g.A.Devices g.L.Picked.Admission (g.L.RuleList.labels c.args.rules) (g.S.Source.left c.args.source.now) c.args.disk c.args.devices x c.run_generator.result.disk c.run_generator.result.devices c.run_generator.result.exit (g.K.Sink.taken c.args.sink.now) (g.K.Sink.taken c.run_generator.new.sink))
    (same_command {a = commands.Generate c.in-Ok-Some-Generate.count} {b = asked} c.in-Ok-Some-Generate.field-0-0 c.in-Ok-Some-Generate.ensures.value c.in-Ok-Some-Generate.field-0-is c.in-Ok-Some-Generate.field-0-0-is h)
    (c.run_generator.ensures.ends (g.L.RuleList.labels c.args.rules) (g.S.Source.left c.args.source.now) c.pick-rules-in-Ok-Some-Generate.ensures)

pub returns-in-Ok-Some-Generate-clause-store : goal.returns-in-Ok-Some-Generate-clause-store
returns-in-Ok-Some-Generate-clause-store g c = λ e. (subst (HasCause g.D.Disk g.A.Devices g.L.Picked.Admission (g.L.RuleList.labels c.args.rules) (g.S.Source.left c.args.source.now) c.args.disk c.args.devices (commands.Generate c.in-Ok-Some-Generate.count) c.run_generator.result.disk c.run_generator.result.devices) e (cause g.D.Disk g.A.Devices g.L.Picked.Admission (g.L.RuleList.labels c.args.rules) (g.S.Source.left c.args.source.now) c.args.disk c.args.devices (commands.Generate c.in-Ok-Some-Generate.count) c.run_generator.result.disk c.run_generator.result.devices c.run_generator.result.exit _ _ (c.run_generator.ensures.ends (g.L.RuleList.labels c.args.rules) (g.S.Source.left c.args.source.now) c.pick-rules-in-Ok-Some-Generate.ensures))).0

pub returns-in-Ok-Some-Generate-clause-damaged : goal.returns-in-Ok-Some-Generate-clause-damaged
returns-in-Ok-Some-Generate-clause-damaged g c = λ cell e. (subst (HasCause g.D.Disk g.A.Devices g.L.Picked.Admission (g.L.RuleList.labels c.args.rules) (g.S.Source.left c.args.source.now) c.args.disk c.args.devices (commands.Generate c.in-Ok-Some-Generate.count) c.run_generator.result.disk c.run_generator.result.devices) e (cause g.D.Disk g.A.Devices g.L.Picked.Admission (g.L.RuleList.labels c.args.rules) (g.S.Source.left c.args.source.now) c.args.disk c.args.devices (commands.Generate c.in-Ok-Some-Generate.count) c.run_generator.result.disk c.run_generator.result.devices c.run_generator.result.exit _ _ (c.run_generator.ensures.ends (g.L.RuleList.labels c.args.rules) (g.S.Source.left c.args.source.now) c.pick-rules-in-Ok-Some-Generate.ensures))).0

pub returns-in-Ok-Some-Generate-clause-unwritten : goal.returns-in-Ok-Some-Generate-clause-unwritten
returns-in-Ok-Some-Generate-clause-unwritten g c = unwritten g.D.Disk g.A.Devices g.L.Picked.Admission (g.L.RuleList.labels c.args.rules) (g.S.Source.left c.args.source.now) c.args.disk c.args.devices (commands.Generate c.in-Ok-Some-Generate.count) c.run_generator.result.disk c.run_generator.result.devices c.run_generator.result.exit _ _ (c.run_generator.ensures.ends (g.L.RuleList.labels c.args.rules) (g.S.Source.left c.args.source.now) c.pick-rules-in-Ok-Some-Generate.ensures)

pub returns-in-Ok-Some-Generate-clause-disk_fault : goal.returns-in-Ok-Some-Generate-clause-disk_fault
returns-in-Ok-Some-Generate-clause-disk_fault g c = λ e. subst (HasCause g.D.Disk g.A.Devices g.L.Picked.Admission (g.L.RuleList.labels c.args.rules) (g.S.Source.left c.args.source.now) c.args.disk c.args.devices (commands.Generate c.in-Ok-Some-Generate.count) c.run_generator.result.disk c.run_generator.result.devices) e (cause g.D.Disk g.A.Devices g.L.Picked.Admission (g.L.RuleList.labels c.args.rules) (g.S.Source.left c.args.source.now) c.args.disk c.args.devices (commands.Generate c.in-Ok-Some-Generate.count) c.run_generator.result.disk c.run_generator.result.devices c.run_generator.result.exit _ _ (c.run_generator.ensures.ends (g.L.RuleList.labels c.args.rules) (g.S.Source.left c.args.source.now) c.pick-rules-in-Ok-Some-Generate.ensures))

pub returns-in-Ok-Some-Generate-clause-complete : goal.returns-in-Ok-Some-Generate-clause-complete
returns-in-Ok-Some-Generate-clause-complete g c = λ asked h reads r w d has quotas.
    let same = same_command {a = commands.Generate c.in-Ok-Some-Generate.count} {b = asked} c.in-Ok-Some-Generate.field-0-0 c.in-Ok-Some-Generate.ensures.value c.in-Ok-Some-Generate.field-0-is c.in-Ok-Some-Generate.field-0-0-is h in
    subst (λ x. IsDonePlainly g.D.Disk g.A.Devices g.L.Picked.Admission (g.L.RuleList.labels c.args.rules) (g.S.Source.left c.args.source.now) c.args.disk c.args.devices x c.run_generator.result.disk c.run_generator.result.devices c.run_generator.result.exit (g.K.Sink.taken c.args.sink.now) (g.K.Sink.taken c.run_generator.new.sink) ⊎ (c.run_generator.result.exit ≡ Memory)) same
    (complete g.D.Disk g.A.Devices g.L.Picked.Admission (g.L.RuleList.labels c.args.rules) (g.S.Source.left c.args.source.now) c.args.disk c.args.devices (commands.Generate c.in-Ok-Some-Generate.count) c.run_generator.result.disk c.run_generator.result.devices c.run_generator.result.exit _ _ ⊥ _ (record { ends = c.run_generator.ensures.ends (g.L.RuleList.labels c.args.rules) (g.S.Source.left c.args.source.now) c.pick-rules-in-Ok-Some-Generate.ensures; script = λ f e. late (λ z. c.run_generator.ensures.late z) (Script f) tt e; read = λ e. late (λ z. c.run_generator.ensures.late z) ReadFault tt e; write = c.run_generator.ensures.write }) tt (λ z. z) w d has tt)

pub returns-in-Ok-Some-Generate-clause-no_store : goal.returns-in-Ok-Some-Generate-clause-no_store
returns-in-Ok-Some-Generate-clause-no_store g c = λ asked h reads r d tells.
    no_store g.D.Disk g.A.Devices g.L.Picked.Admission (g.L.RuleList.labels c.args.rules) (g.S.Source.left c.args.source.now) c.args.disk c.args.devices (commands.Generate c.in-Ok-Some-Generate.count) c.run_generator.result.disk c.run_generator.result.devices c.run_generator.result.exit _ _ ⊥ _ (record { ends = c.run_generator.ensures.ends (g.L.RuleList.labels c.args.rules) (g.S.Source.left c.args.source.now) c.pick-rules-in-Ok-Some-Generate.ensures; script = λ f e. late (λ z. c.run_generator.ensures.late z) (Script f) tt e; read = λ e. late (λ z. c.run_generator.ensures.late z) ReadFault tt e; write = c.run_generator.ensures.write }) tt (λ z. z) d tells

pub returns-in-Ok-Some-Generate-clause-bad_cell : goal.returns-in-Ok-Some-Generate-clause-bad_cell
returns-in-Ok-Some-Generate-clause-bad_cell g c = λ asked h reads r d cell tells.
    bad_cell g.D.Disk g.A.Devices g.L.Picked.Admission (g.L.RuleList.labels c.args.rules) (g.S.Source.left c.args.source.now) c.args.disk c.args.devices (commands.Generate c.in-Ok-Some-Generate.count) c.run_generator.result.disk c.run_generator.result.devices c.run_generator.result.exit _ _ ⊥ _ (record { ends = c.run_generator.ensures.ends (g.L.RuleList.labels c.args.rules) (g.S.Source.left c.args.source.now) c.pick-rules-in-Ok-Some-Generate.ensures; script = λ f e. late (λ z. c.run_generator.ensures.late z) (Script f) tt e; read = λ e. late (λ z. c.run_generator.ensures.late z) ReadFault tt e; write = c.run_generator.ensures.write }) tt (λ z. z) d cell tells

pub returns-in-Ok-Some-Generate-clause-over_quota : goal.returns-in-Ok-Some-Generate-clause-over_quota
returns-in-Ok-Some-Generate-clause-over_quota g c = λ owner e.
    absurd (subst (HasCause g.D.Disk g.A.Devices g.L.Picked.Admission (g.L.RuleList.labels c.args.rules) (g.S.Source.left c.args.source.now) c.args.disk c.args.devices (commands.Generate c.in-Ok-Some-Generate.count) c.run_generator.result.disk c.run_generator.result.devices) e
    (cause g.D.Disk g.A.Devices g.L.Picked.Admission (g.L.RuleList.labels c.args.rules) (g.S.Source.left c.args.source.now) c.args.disk c.args.devices (commands.Generate c.in-Ok-Some-Generate.count) c.run_generator.result.disk c.run_generator.result.devices c.run_generator.result.exit _ _
    (c.run_generator.ensures.ends (g.L.RuleList.labels c.args.rules) (g.S.Source.left c.args.source.now) c.pick-rules-in-Ok-Some-Generate.ensures))).0
