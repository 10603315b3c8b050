-- The name of each command.
use Rattle.std.specs.Prelude.{ℕ, cond, List, Ok, Err, codes, Result}
use Rattle.std.specs.Str.{bytes_eq}
use Rattle.command.specs.declared.command.Fault.{Fault}
use Rattle.command.specs.declared.command.Fault.TheVariants.{UnknownCommand}
use Rattle.orders.specs.declared.verb.Verb.{Verb}
use Rattle.orders.specs.declared.verb.Verb.TheVariants.{Help, Create, Lay, Write, Read, Print, Survey, Exchange, Sweep, Status, Verify, Put, Get, Drill, Script}

abbrev pub verb_name : Verb → List ℕ
verb_name Help = codes "help"
verb_name Create = codes "create"
verb_name Lay = codes "lay"
verb_name Write = codes "write"
verb_name Read = codes "read"
verb_name Print = codes "print"
verb_name Survey = codes "survey"
verb_name Exchange = codes "exchange"
verb_name Sweep = codes "sweep"
verb_name Status = codes "status"
verb_name Verify = codes "verify"
verb_name Put = codes "put"
verb_name Get = codes "get"
verb_name Drill = codes "drill"
verb_name Script = codes "script"

-- the command that a token names
abbrev pub verb_of : List ℕ → Result Verb Fault
verb_of t =
    cond (bytes_eq t (codes "help")) (Ok Help)
    (cond (bytes_eq t (codes "create")) (Ok Create)
    (cond (bytes_eq t (codes "lay")) (Ok Lay)
    (cond (bytes_eq t (codes "write")) (Ok Write)
    (cond (bytes_eq t (codes "read")) (Ok Read)
    (cond (bytes_eq t (codes "print")) (Ok Print)
    (cond (bytes_eq t (codes "survey")) (Ok Survey)
    (cond (bytes_eq t (codes "exchange")) (Ok Exchange)
    (cond (bytes_eq t (codes "sweep")) (Ok Sweep)
    (cond (bytes_eq t (codes "status")) (Ok Status)
    (cond (bytes_eq t (codes "verify")) (Ok Verify)
    (cond (bytes_eq t (codes "put")) (Ok Put)
    (cond (bytes_eq t (codes "get")) (Ok Get)
    (cond (bytes_eq t (codes "drill")) (Ok Drill)
    (cond (bytes_eq t (codes "script")) (Ok Script)
    (Err UnknownCommand)))))))))))))))
