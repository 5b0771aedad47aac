-- The kind of a script's fault, by the fault of a counted text.
use Rattle.conf_model.specs.declared.fault.ConfFault.{ConfFault}
use Rattle.conf_model.specs.declared.fault.ConfKind.{ConfKind}
use Rattle.user_login.specs.declared.fault.UsersFault.{UsersFault}
use Rattle.user_login.specs.declared.fault.UsersKind.{UsersKind}
use Rattle.replay_script.specs.declared.fault.ScriptKind.{ScriptKind}

-- want of memory is one kind, wherever it comes
abbrev pub conf_kind : ConfFault → ScriptKind
conf_kind fault = elim fault.kind [ ConfKind.Memory ↦ ScriptKind.Memory | _ ↦ ScriptKind.Conf fault ]

abbrev pub users_kind : UsersFault → ScriptKind
users_kind fault = elim fault.kind [ UsersKind.Memory ↦ ScriptKind.Memory | _ ↦ ScriptKind.Users fault ]
