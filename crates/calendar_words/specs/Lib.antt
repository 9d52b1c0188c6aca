-- CalendarStructs is what the contracts say; CalendarFields the structs against their answers' results; CalendarSets a calendar in its words after adding.
pub mod CalendarStructs
pub mod CalendarFields
pub mod CalendarSets
