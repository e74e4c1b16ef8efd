-- The first stage of a request: RISC-V IOMMU Architecture 1.0, "Process to translate an IOVA".
use Rattle.std.specs.Prelude.{ℕ, ◌==◌, ◌&&◌, ◌||◌, Bool, false, not, Option, Some, None, if◌then◌else◌}
use Rattle.iom_walk.specs.declared.rules.Class.{Class}
use Rattle.iom_walk.specs.declared.rules.Class.TheVariants.{User, Supervisor, SupervisorUser}
use Rattle.iom_pdt.specs.declared.context.ProcessFields.{ProcessFields}
use Rattle.iom_pdt.specs.declared.directory.ProcessDirectory.{ProcessDirectory}
use Rattle.iom_pdt.specs.declared.request.First.{First}
use Rattle.iom_pdt.specs.declared.request.First.TheVariants as first
use Rattle.iom_pdt.specs.declared.request.Process.{Process}
use Rattle.iom_pdt.specs.declared.request.Processes.{Processes}
use Rattle.iom_pdt.specs.declared.request.Processes.TheVariants as processes
use Rattle.iom_pdt.specs.Directories.{is_too_wide}

-- that of a process id under a directory; an id that is wider than the mode supports is disallowed
abbrev pub listed : ProcessDirectory → ℕ → First
listed directory id = if is_too_wide directory.depth id then first.Disallowed else first.Listed directory id

-- with DPE a request without a process id has the default one, 0; without DPE its first stage is Bare
abbrev pub listed_by : ProcessDirectory → Bool → Option Process → First
listed_by directory default (Some process) = listed directory process.id
listed_by directory default None = if default then listed directory 0 else first.Bare

-- where PDTV is 0, a process id is disallowed
abbrev pub first_of : Processes → Option Process → First
first_of processes.Without None = first.Own
first_of processes.Without (Some process) = first.Disallowed
first_of processes.Bare process = first.Bare
first_of (processes.Listed directory default) process = listed_by directory default process

-- the privilege of a request: that of a supervisor only with a process id
abbrev pub is_supervisor : Option Process → Bool
is_supervisor None = false
is_supervisor (Some process) = process.supervisor

-- the class of a request under a process context; None is disallowed: a supervisor's where ENS is 0
abbrev pub class_in : Option Process → ProcessFields → Option Class
class_in process context =
    if is_supervisor process && not context.ens then None
    else if not (is_supervisor process) || context.mode == 0 then Some User
    else if context.sum then Some SupervisorUser
    else Some Supervisor
